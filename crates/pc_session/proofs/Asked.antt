-- What is told of an account's answer, where it has one, is told of the history's.
use Rattle.std.proofs.Common.{◌≡◌, ◌∙◌, ℕ, List, Option, Result, Ok, Err, map, refl, sym, ap, subst, IfOk, IfErr}
use Rattle.std.proofs.lemmas.Simd.{map-map}
use Rattle.pc_base.specs.declared.refusal.Refusal.{Refusal}
use Rattle.pc_base.specs.AskFault.{Tells as Answers}
use Rattle.pc_account.specs.Answers.{client_row}
use Rattle.pc_account.specs.declared.answer.Answer.{Answer}
use Rattle.pc_account.specs.declared.answer.ClientRow.{ClientRow}
use Rattle.pc_reply.specs.declared.head.Head.TheVariants as head
use Rattle.pc_session.specs.Answering.{Tells}
use Rattle.pc_session.specs.Lists.{client_lines, row_line}
use Rattle.pc_session.specs.Repository.{listed, plain, replied, selects}
use Rattle.pc_session.specs.declared.access.Latest.{Latest}
use Rattle.pc_session.specs.declared.answered.Answered.{Answered}
use Rattle.pc_session.specs.declared.answered.Failure.{Failure}
use Rattle.pc_session.specs.declared.answered.Failure.TheVariants.{Memory}
use Rattle.pc_session.specs.declared.answered.Move.TheVariants.{Selects, Stays}
use Rattle.pc_session.specs.declared.state.SessionState.{SessionState}

-- a mailbox that lives is selected
pub selected : (s : SessionState) (mailbox : List ℕ) (o : Result Answer Refusal) (answer : Answer) (done : Answered) → Answers o (Ok answer) → done ≡ record { reply = plain head.Ok; heard = plain head.Ok; then = Selects mailbox } → Tells (selects s mailbox o) s (Ok done)
selected s mailbox (Ok x) answer done is made = subst (λ (d : Answered). Tells (selects s mailbox (Ok x)) s (Ok d)) (sym made) (refl, refl, refl, refl, refl)
selected s mailbox (Err why) answer done never made = absurd never

-- clients that are listed by their rows
pub clients-listed : (s : SessionState) (latest : List ℕ → Option Latest) (clients : List (List ℕ × ℕ)) (rows : List ClientRow) (lines : List (List ℕ)) (r : Result Answered Failure) → rows ≡ map client_row clients → lines ≡ map (row_line latest) rows → IfOk r (λ (done : Answered). done ≡ record { reply = listed lines; heard = listed lines; then = Stays }) → IfErr r (λ (why : Failure). why ≡ Memory) → Tells (replied s (listed (client_lines latest clients))) s r
clients-listed s latest clients rows lines (Ok done) are list made none =
    let lines-are : lines ≡ client_lines latest clients = list ∙ ap (map (row_line latest)) are ∙ map-map (row_line latest) client_row clients in
    let whole : done ≡ record { reply = listed (client_lines latest clients); heard = listed (client_lines latest clients); then = Stays } = made ∙ ap (λ (ls : List (List ℕ)). record { reply = listed ls; heard = listed ls; then = Stays }) lines-are in
    subst (λ (d : Answered). Tells (replied s (listed (client_lines latest clients))) s (Ok d)) (sym whole) (refl, refl, refl, refl, refl)
clients-listed s latest clients rows lines (Err why) are list none is = subst (λ (w : Failure). Tells (replied s (listed (client_lines latest clients))) s (Err w)) (sym is) tt
