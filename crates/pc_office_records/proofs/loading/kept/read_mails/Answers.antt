use Rattle.std.proofs.Common.{◌+◌, ◌-◌, List, ℕ, [], map, Ok, Err, refl, subst, ◌∙◌, arith}
use Rattle.pc_message.specs.Message.{weight_of}
use Rattle.pc_fields.specs.Format.{Reads}
use Rattle.pc_fields.proofs.Follows.{match_err}
use Rattle.pc_office_spelling.specs.RecordFormat.{items_from, kept_format}
use Rattle.pc_office_holdings.specs.Held.{noted_of}
use Rattle.pc_office_records.proofs.ReadItems.{items_first, items_more, items_halt, items_last}
use Rattle.pc_office_records.proofs.ReadMails.{distinct-same, length-same}
use Rattle.pc_office_records.proofs.Tallies.{noted-same, tallied-more, tallied-first, last-more, last-first, counted-last}
use Rattle.pc_office_records.proofs.loading.kept.read_mails.Goals as goal

pub read_mail-requires-clause-distinct : goal.read_mail-requires-clause-distinct
read_mail-requires-clause-distinct c = distinct-same c.loop-taken.users c.args.users.now c.loop-taken.invariant.same c.requires.distinct

pub read_mail-requires-clause-few : goal.read_mail-requires-clause-few
read_mail-requires-clause-few c = let same = length-same c.loop-taken.users c.args.users.now c.loop-taken.invariant.same in let few = c.requires.few in omega (arith, same, few)

pub loop-taken-init : goal.loop-taken-init
loop-taken-init c =
    let format = kept_format (map noted_of c.args.users.now) c.args.accepted in
    rw c.new-kept.ensures.items (record {
      follows = items_first format c.args.count c.args.cursor.now;
      same = refl;
      tallied = tallied-first c.args.users.now c.requires.uncounted;
      last = last-first;
    })

pub returns-in_err-mail-clause-read : goal.returns-in_err-mail-clause-read
returns-in_err-mail-clause-read c =
    let noted = map noted_of c.args.users.now in
    let format = kept_format noted c.args.accepted in
    let left = c.args.count - (c.loop-taken.taken + 1) in
    let reads = c.in_err-mail.ensures.read c.loop-taken.kept.items c.loop-taken.invariant.tallied c.loop-taken.invariant.last in
    let moved = subst (λ (these : List (List ℕ × ℕ)). Reads (kept_format these c.args.accepted left c.loop-taken.kept.items) c.loop-taken.cursor c.read_mail.new.cursor (Err c.in_err-mail.field-0.0)) c.loop-taken.invariant.same reads in
    match_err c.from_residual.result c.in_err-mail.field-0.0 _ _ c.from_residual.ensures
    (items_halt format c.args.count c.loop-taken.taken c.loop-taken.kept.items (items_from format c.args.count []) c.args.cursor.now c.loop-taken.cursor c.loop-taken-test.true c.loop-taken.invariant.follows c.read_mail.new.cursor c.in_err-mail.field-0.0 moved)

pub loop-taken-preserved : goal.loop-taken-preserved
loop-taken-preserved c =
    let noted = map noted_of c.args.users.now in
    let format = kept_format noted c.args.accepted in
    let left = c.args.count - (c.loop-taken.taken + 1) in
    let mail = c.in_ok-mail.mail in
    let before = c.loop-taken.kept.items in
    let users = c.loop-taken.users in
    let reads = c.in_ok-mail.ensures.read before c.loop-taken.invariant.tallied c.loop-taken.invariant.last in
    let moved = subst (λ (these : List (List ℕ × ℕ)). Reads (kept_format these c.args.accepted left before) c.loop-taken.cursor c.read_mail.new.cursor (Ok mail)) c.loop-taken.invariant.same reads in
    rw (c.in_ok-put.ensures, c.await_mail.ensures, c.weight.ensures.weight) (record {
      follows = items_more format c.args.count c.loop-taken.taken before (items_from format c.args.count []) c.args.cursor.now c.loop-taken.cursor c.loop-taken-test.true c.loop-taken.invariant.follows c.read_mail.new.cursor mail moved;
      same = noted-same mail.targets (weight_of mail.message) users ∙ c.loop-taken.invariant.same;
      tallied = tallied-more before users mail (distinct-same users c.args.users.now c.loop-taken.invariant.same c.requires.distinct) c.loop-taken.invariant.tallied c.in_ok-mail.ensures.open c.in_ok-mail.ensures.size;
      last = last-more before c.loop-taken.last mail c.loop-taken.invariant.last c.in_ok-mail.ensures.past;
    })

pub returns-clause-read : goal.returns-clause-read
returns-clause-read c =
    let format = kept_format (map noted_of c.args.users.now) c.args.accepted in
    items_last format c.args.count c.loop-taken.taken c.loop-taken.kept.items (items_from format c.args.count []) c.args.cursor.now c.loop-taken.cursor c.loop-taken-test.false c.loop-taken.invariant.follows

pub returns-clause-counted : goal.returns-clause-counted
returns-clause-counted c = counted-last c.loop-taken.kept.items c.loop-taken.users c.loop-taken.invariant.tallied
