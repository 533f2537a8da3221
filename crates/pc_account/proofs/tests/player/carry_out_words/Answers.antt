use Rattle.pc_account_holdings.specs.State.{said}
use Rattle.pc_account.proofs.tests.player.carry_out_words.Goals as goal

pub carry_out-requires : goal.carry_out-requires
carry_out-requires c = c.in_ok-wish.ensures (said c.args.account.now)
