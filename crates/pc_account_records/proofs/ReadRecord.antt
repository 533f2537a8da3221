-- What reading a record says of its bytes.
use Rattle.std.proofs.Common.{◌≡◌, ℕ, ◌≤◌, ◌^◌, List, [], length, Option, Result, Ok, Err, MatchResult, IfOk, sym, subst, arith}
use Rattle.pc_account_history.specs.Record.{AccountRecord}
use Rattle.pc_account_history.specs.Legal.{IsCanonical}
use Rattle.pc_account_history.specs.declared.limits.TheConstants.{MOST_CLIENTS}
use Rattle.pc_fields.specs.Format.{Format, ends, Took, Stuck, Reads}
use Rattle.pc_account_spelling.specs.RecordFormat.{clients_format, record_format}
use Rattle.pc_fields.specs.declared.cursor.Halt.{Halt}
use Rattle.pc_fields.specs.declared.cursor.Halt.TheVariants.{NoField}
use Rattle.pc_fields.proofs.Formats.{took_fields}
use Rattle.pc_fields.proofs.Good.{good_reads}
use Rattle.pc_account_spelling.proofs.GoodTables.{AreReadClients, good_clients}
use Rattle.pc_account_spelling.specs.RecordForm.{CanBeSaved}
use Rattle.pc_account_spelling.specs.Spelling.{spelled_record}
use Rattle.pc_account_spelling.proofs.Spelled.{canonical_last}
use Rattle.pc_fields.proofs.Spelled.{if_both}
use Rattle.pc_base.specs.declared.failure.ReadFault.{ReadFault}
use Rattle.pc_account_holdings.specs.Mailboxes.{Table}
use Rattle.pc_account_holdings.specs.State.{State}

-- clients that were read are few
pub few_clients : (old new : List ℕ) (clients : List (List ℕ × ℕ)) → Reads clients_format old new (Ok clients) → length clients ≤ MOST_CLIENTS
few_clients old new clients reads =
    let read = took_fields clients_format old new clients reads.told in
    (good_reads (AreReadClients []) clients_format [] read.fields clients (good_clients []) read.reads).few

-- the record, once all was read
abbrev pub with_all : ℕ → Option (List ℕ) → List (List ℕ × ℕ) → Table × Table → List (List ℕ × ℕ) → Format AccountRecord
with_all pulled digest clients mailboxes subscriptions = ends (record { pulled = pulled; digest = digest; clients = clients; live = mailboxes.0; dropped = mailboxes.1; subscriptions = subscriptions })

-- what of an account is spelled
abbrev pub held_in : State → AccountRecord
held_in state = state.held

-- what was read is canonical before the last number
pub state_canonical : (bytes : List ℕ) (result : Result State ReadFault) → IfOk result (λ state. CanBeSaved state.held × (spelled_record state.held ≡ bytes)) → IfOk result (λ state. state.next ≡ 2 ^ 63) → IfOk result (λ state. IsCanonical state.held state.next)
state_canonical bytes result found last =
    if_both (λ (state : State). CanBeSaved state.held × (spelled_record state.held ≡ bytes)) (λ (state : State). state.next ≡ 2 ^ 63) (λ (state : State). IsCanonical state.held state.next) result found last
    (λ state is next. subst (λ (n : ℕ). IsCanonical state.held n) (sym next) (canonical_last state.held is.0))
