use Rattle.std.proofs.Common.{◌≡◌, ℕ, ◌-◌, ◌≤◌, IsTrue, Option, Some, List, length, take, drop, arith, ap, sym, ◌∙◌, subst}
use Rattle.std.specs.Int.{w16}
use Rattle.std.proofs.lemmas.Bool.{le-leb}
use Rattle.std.proofs.lemmas.List.{take_rest, length-take}
use Rattle.pc_base.specs.Line.{is_line}
use Rattle.pc_fields.specs.Fields.{has_room, number_at}
use Rattle.pc_fields.proofs.Fields.{no_line, crowded, cut_line, other_line, long_text, fed_text, text_is, a_line}
use Rattle.pc_fields.proofs.cursor.line_at.Goals as goal

pub returns-in_default : goal.returns-in_default
returns-in_default c = no_line (has_room c.args.room) c.args.bytes.now c.in_default.ensures.number

pub returns-then-room-count : goal.returns-then-room-count
returns-then-room-count c = crowded c.args.room c.args.bytes.now c.in-Some.count (λ i. omega (arith, c.type_inv.bytes i)) c.in-Some.ensures.range c.in-Some.ensures.number (omega arith)

pub returns-then-rest-count : goal.returns-then-rest-count
returns-then-rest-count c =
    let same = ap length (take_rest c.args.bytes.now 2) in
    cut_line (has_room c.args.room) c.args.bytes.now c.in-Some.count (λ i. omega (arith, c.type_inv.bytes i)) c.in-Some.ensures.range c.in-Some.ensures.number (omega (arith, same, c.if-rest-count.true))

pub returns-in-Ok : goal.returns-in-Ok
returns-in-Ok c =
    let same = ap length (take_rest c.args.bytes.now 2) in
    let number : ◌≡◌ {A = Option ℕ} (Some c.from-count.result) (number_at w16 c.args.bytes.now) = cc in
    let long : c.from-count.result ≤ length (drop 2 c.args.bytes.now) = omega (arith, same, c.if-rest-count.false) in
    let text : c.in-Ok.line ≡ take c.from-count.result (drop 2 c.args.bytes.now) = c.in-Ok.ensures.0 ∙ text_is c.args.bytes.now c.from-count.result in
    let short : length c.in-Ok.line ≤ c.args.room = omega (arith, ap length text, length-take c.from-count.result (drop 2 c.args.bytes.now)) in
    a_line (has_room c.args.room) c.args.bytes.now c.from-count.result (λ i. omega (arith, c.type_inv.bytes i)) number long c.in-Ok.line text (subst (λ (line : List ℕ). IsTrue (is_line line)) (sym c.in-Ok.ensures.0) c.in-Ok.ensures.1) (le-leb _ _ short)

pub returns-in-Err-TooLong : goal.returns-in-Err-TooLong
returns-in-Err-TooLong c =
    let number : ◌≡◌ {A = Option ℕ} (Some c.from-count.result) (number_at w16 c.args.bytes.now) = cc in
    let long = rw c.in-Err-TooLong.field-0-is at c.in-Err-TooLong.ensures in
    other_line (has_room c.args.room) c.args.bytes.now c.from-count.result (λ i. omega (arith, c.type_inv.bytes i)) (omega (arith, c.in-Some.ensures.range)) number _ (text_is c.args.bytes.now c.from-count.result) (long_text _ long)

pub returns-in-Err-HasLf : goal.returns-in-Err-HasLf
returns-in-Err-HasLf c =
    let number : ◌≡◌ {A = Option ℕ} (Some c.from-count.result) (number_at w16 c.args.bytes.now) = cc in
    let fed = rw c.in-Err-HasLf.field-0-is at c.in-Err-HasLf.ensures in
    other_line (has_room c.args.room) c.args.bytes.now c.from-count.result (λ i. omega (arith, c.type_inv.bytes i)) (omega (arith, c.in-Some.ensures.range)) number _ (text_is c.args.bytes.now c.from-count.result) (fed_text (take c.from-count.result (take (length c.args.bytes.now - 2) (drop 2 c.args.bytes.now))) fed.1)
