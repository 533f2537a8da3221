use Rattle.std.proofs.Common.{◌≡◌, true, map, take}
use Rattle.std.specs.List.{list_all}
use Rattle.pc_account_holdings.specs.State.{said}
use Rattle.pc_account.specs.Taking.{parcel_for, letter_fits}
use Rattle.pc_account.proofs.parcels.Parcels.of_mails.Given as goal

abbrev pub invariant-loop-mail : goal.invariant-loop-mail
invariant-loop-mail l = record {
  parcels : l.parcels ≡ map (parcel_for (said l.holdings)) (take l.mail-index l.mails);
  fits : list_all (letter_fits (said l.holdings)) (take l.mail-index l.mails) ≡ true;
}
