-- The fields of mails that wait are read as them.
use Rattle.std.proofs.Common.{◌≡◌, ℕ, ◌+◌, ◌<◌, ◌≤◌, Bool, true, false, cond, not, ◌&&◌, ◌||◌, nat_lt, nat_le, List, [], ◌∷◌, ◌++◌, length, Some, MatchOption, refl, sym, ap, subst, ◌∙◌, append_assoc, arith, length-append, true≢false}
use Rattle.std.specs.List.{list_all, flat_map, AllByRecursion as Every}
use Rattle.std.specs.Map.{lookup}
use Rattle.std.proofs.lemmas.Bool.{leb-true, le-leb, lt-ltb, and_parts, and_from}
use Rattle.pc_base.specs.Name.{is_name}
use Rattle.pc_base.specs.Line.{is_line}
use Rattle.pc_message.specs.declared.lists.Mail.{Mail}
use Rattle.pc_message.specs.Message.{size_of, weight_of}
use Rattle.pc_tables.specs.Table.{same, is_among}
use Rattle.pc_tables.specs.Order.{Ordered, AreDistinct}
use Rattle.pc_tables.proofs.Table.{same-true, same-refl, same-sym}
use Rattle.pc_tables.proofs.Lists.{Every-weaker, Every-append}
use Rattle.pc_tables.proofs.Totals.{total-append}
use Rattle.pc_fields.specs.FieldBytes.{message_fields}
use Rattle.pc_fields.specs.Fitting.{is_message}
use Rattle.pc_fields.specs.Format.{ends, bind, ReadsAs}
use Rattle.pc_fields.specs.Fields.{is_new}
use Rattle.pc_fields.specs.MessageFormat.{message_within}
use Rattle.pc_fields.proofs.Formats.{reads_bind, ending}
use Rattle.pc_fields.proofs.ReadsMessage.{reads_message}
use Rattle.pc_office_history.specs.declared.limits.TheConstants.{MOST_WAITING, MOST_WAITING_WEIGHT}
use Rattle.pc_office_history.specs.declared.kept.Target.{Target}
use Rattle.pc_office_history.specs.declared.kept.KeptMail.{KeptMail}
use Rattle.pc_office_history.specs.Record.{mails_for}
use Rattle.pc_office_history.specs.Limits.{mail_weight}
use Rattle.pc_office_history.specs.Step.{is_awaited}
use Rattle.pc_office_history.specs.Legal.{HasOtherUser, IsUnpulled, IsKept}
use Rattle.pc_office_history.proofs.Mails.{mails_for-append}
use Rattle.pc_office_spelling.specs.RecordSpelling.{target_fields, kept_fields}
use Rattle.pc_office_spelling.specs.RecordForm.{target_fits, kept_fits}
use Rattle.pc_office_spelling.specs.Spaces.{space_of, users_of, space_after, can_follow, open_users, may_wait, greatest}
use Rattle.pc_office_spelling.specs.RecordFormat.{items_from, target_format, kept_format}
use Rattle.pc_office_spelling.proofs.Items.{reads_items}
use Rattle.pc_office_spelling.proofs.Spaces.{follow_from, greatest-least}
use Rattle.pc_office_spelling.proofs.Waits.{Rising, is_for, IsBelow, AreFew, front-long, behind-heavy, space-for, rising-room, enough-rest, enough-many, enough-before}
use Rattle.pc_fields.proofs.NewNames.{or-second, among-count}
use Rattle.pc_office_spelling.proofs.OpenUsers.{open-few, below-open}
use Rattle.pc_office_spelling.proofs.GoodKept.{users-long, among-targets, below-all}

-- ---- targets

record TargetsLeft (names : List (List ℕ)) (before rest : List Target) : Type 0 where
  among : Every (λ (target : Target). is_among target.user names ≡ true) rest
  apart : Ordered HasOtherUser rest
  below : Every (λ (target : Target). Every (HasOtherUser target) rest) before
  fit : list_all target_fits rest ≡ true

new-among : (target : Target) (rest before : List Target) → Every (λ (one : Target). Every (HasOtherUser one) (target ∷ rest)) before → is_among target.user (users_of before) ≡ false
new-among target rest [] below = refl
new-among target rest (one ∷ before) below = λ i. (same-sym target.user one.user ∙ below.0.0) i || new-among target rest before below.1 i

reads-target : (names : List (List ℕ)) (before : List Target) (target : Target) (rest : List Target) → TargetsLeft names before (target ∷ rest) → ReadsAs (target_format names (length rest) before) (target_fields target) target × TargetsLeft names (before ++ target ∷ []) rest
reads-target names before target rest left =
    let fits = and_parts (target_fits target) (list_all target_fits rest) left.fit in
    let parts = and_parts (is_name target.user) (is_name target.mailbox) fits.0 in
    let new = ap not (new-among target rest before left.below) in (
      (target.user, _, parts.0, and_from (is_among target.user names) (is_new (users_of before) target.user) left.among.0 new, refl, (target.mailbox, [], parts.1, refl, refl, (refl, refl))),
      record {
        among = left.among.1;
        apart = left.apart.1;
        below = Every-append (λ (one : Target). Every (HasOtherUser one) rest) before (target ∷ []) (Every-weaker (λ (one : Target). Every (HasOtherUser one) (target ∷ rest)) (λ (one : Target). Every (HasOtherUser one) rest) (λ one all. all.1) before left.below) (left.apart.0, tt);
        fit = fits.1;
      },
    )

reads-targets : (names : List (List ℕ)) (targets : List Target) → Every (λ (target : Target). is_among target.user names ≡ true) targets → Ordered HasOtherUser targets → list_all target_fits targets ≡ true
    → ReadsAs (items_from (target_format names) (length targets) []) (flat_map target_fields targets) targets
reads-targets names targets among apart fit = reads_items (target_format names) target_fields (TargetsLeft names) (reads-target names) [] targets (record { among = among; apart = apart; below = tt; fit = fit })

distinct-users : (targets : List Target) → Ordered HasOtherUser targets → AreDistinct (users_of targets)
distinct-users [] apart = tt
distinct-users (target ∷ targets) apart = (moved targets apart.0, distinct-users targets apart.1)
  where
    moved : (some : List Target) → Every (HasOtherUser target) some → Every (λ (later : List ℕ). same target.user later ≡ false) (users_of some)
    moved [] all = tt
    moved (one ∷ some) all = (all.0, moved some all.1)

self-among : (targets : List Target) → Every (λ (target : Target). is_among target.user (users_of targets) ≡ true) targets
self-among [] = tt
self-among (target ∷ targets) = (
  ap (λ (b : Bool). b || is_among target.user (users_of targets)) (same-refl target.user),
  Every-weaker (λ (one : Target). is_among one.user (users_of targets) ≡ true) (λ (one : Target). is_among one.user (users_of (target ∷ targets)) ≡ true) (λ one is. or-second (same one.user target.user) (is_among one.user (users_of targets)) is) targets (self-among targets),
)

-- ---- mails

-- what holds of each user holds of one that is found
every-found : (P : List ℕ → Type 0) (number : ℕ) (name : List ℕ) (users : List (List ℕ × ℕ)) → Every (λ (user : List ℕ × ℕ). P user.0) users → IsBelow users number name → P name
every-found P number name [] all found = absurd found
every-found P number name (user ∷ users) all found =
    elim (same name user.0) as (λ b. same name user.0 ≡ b → MatchOption (cond b (Some user.1) (lookup (same name) users)) ⊥ (λ noted. noted < number) → P name) [
      | true ↦ λ e low. subst P (sym (same-true name user.0 e)) all.0
      | false ↦ λ e low. every-found P number name users all.1 low
    ] refl found

few-front : (users : List (List ℕ × ℕ)) (mails more : List KeptMail) → AreFew users (mails ++ more) → AreFew users mails
few-front [] mails more few = tt
few-front (user ∷ users) mails more few =
    let split = mails_for-append user.0 mails more in
    let long = ap length split ∙ length-append (mails_for user.0 mails) (mails_for user.0 more) in
    let heavy = ap mail_weight split ∙ total-append (λ (m : Mail). weight_of m.message) (mails_for user.0 mails) (mails_for user.0 more) in
    let few-here = few.0.0 in
    let light = few.0.1 in
    ((omega (arith, long, few-here), omega (arith, heavy, light)), few-front users mails more few.1)

pub record KeptLeft (users : List (List ℕ × ℕ)) (accepted : ℕ) (before rest : List KeptMail) : Type 0 where
  pub few : AreFew users (before ++ rest)
  pub rising : Rising rest
  pub kept : Every (IsKept users accepted) rest
  pub fit : list_all kept_fits rest ≡ true
  pub below : Every (λ (mail : KeptMail). Every (λ (later : KeptMail). mail.number < later.number) rest) before

some-length : (targets : List Target) → is_awaited targets ≡ true → 0 < length targets
some-length [] h = absurd (true≢false (sym h))
some-length (target ∷ targets) h = omega arith

module _ (users : List (List ℕ × ℕ)) (accepted : ℕ) (noted : Every (λ (user : List ℕ × ℕ). user.1 ≤ accepted) users) (small : accepted ≤ 9223372036854775807) (few-users : length users ≤ 32) where
  module _ (before rest : List KeptMail) (mail : KeptMail) (left : KeptLeft users accepted before (mail ∷ rest)) where
    abbrev opens : List (List ℕ)
    opens = open_users (space_of before) users mail.number

    is-kept : IsKept users accepted mail
    is-kept = left.kept.0

    -- the users of the targets have space for the mail
    open-each : (some : List Target) → Every (IsUnpulled users mail.number) some → Every (λ (target : Target). is_among target.user (users_of mail.targets) ≡ true) some → Every (λ (target : Target). is_among target.user opens ≡ true) some
    open-each [] unpulled among = tt
    open-each (target ∷ some) unpulled among =
        let fit = every-found (λ name. length (mails_for name (mail ∷ rest)) ≤ space_of before name) mail.number target.user users (space-for users before (mail ∷ rest) left.few) unpulled.0 in
        let long = front-long mail target.user rest in
        let one : is_for mail.targets target.user ≡ 1 = rw among.0 refl in
        (below-open (space_of before) mail.number target.user users unpulled.0 (lt-ltb 0 (space_of before target.user) (omega (arith, fit, long, one))), open-each some unpulled.1 among.1)

    open-targets : Every (λ (target : Target). is_among target.user opens ≡ true) mail.targets
    open-targets = open-each mail.targets is-kept.unpulled (self-among mail.targets)

    many-open : length mail.targets ≤ length opens
    many-open =
        let most = among-count (users_of mail.targets) opens (distinct-users mail.targets is-kept.apart) (among-targets opens mail.targets open-targets) in
        let long = users-long mail.targets in
        omega (arith, most, long)

    few-now : AreFew users (before ++ mail ∷ [])
    few-now = few-front users (before ++ mail ∷ []) rest (subst (λ (mails : List KeptMail). AreFew users mails) (sym (append_assoc before (mail ∷ []) rest)) left.few)

    light-each : (some : List Target) → Every (IsUnpulled users mail.number) some → Every (λ (target : Target). is_among target.user (users_of mail.targets) ≡ true) some
        → list_all (λ user. nat_le (mail_weight (mails_for user before) + (size_of mail.message + 256)) MOST_WAITING_WEIGHT) (users_of some) ≡ true
    light-each [] unpulled among = refl
    light-each (target ∷ some) unpulled among =
        let fit = every-found (λ name. (length (mails_for name (before ++ mail ∷ [])) ≤ MOST_WAITING) × (mail_weight (mails_for name (before ++ mail ∷ [])) ≤ MOST_WAITING_WEIGHT)) mail.number target.user users few-now unpulled.0 in
        let light = fit.1 in
        let heavy = behind-heavy mail target.user before in
        let own : cond (is_among target.user (users_of mail.targets)) (weight_of mail.message) 0 ≡ weight_of mail.message = rw among.0 refl in
        and_from (nat_le (mail_weight (mails_for target.user before) + (size_of mail.message + 256)) MOST_WAITING_WEIGHT) (list_all (λ user. nat_le (mail_weight (mails_for user before) + (size_of mail.message + 256)) MOST_WAITING_WEIGHT) (users_of some))
        (le-leb (mail_weight (mails_for target.user before) + (size_of mail.message + 256)) MOST_WAITING_WEIGHT (omega (arith, light, heavy, own))) (light-each some unpulled.1 among.1)

    next-left : KeptLeft users accepted (before ++ mail ∷ []) rest
    next-left = record {
      few = subst (λ (mails : List KeptMail). AreFew users mails) (sym (append_assoc before (mail ∷ []) rest)) left.few;
      rising = left.rising.1;
      kept = left.kept.1;
      fit = (and_parts (kept_fits mail) (list_all kept_fits rest) left.fit).1;
      below = Every-append (λ (m : KeptMail). Every (λ (later : KeptMail). m.number < later.number) rest) before (mail ∷ []) (Every-weaker (λ (m : KeptMail). Every (λ (later : KeptMail). m.number < later.number) (mail ∷ rest)) (λ (m : KeptMail). Every (λ (later : KeptMail). m.number < later.number) rest) (λ m all. all.1) before left.below)
          (left.rising.0, tt);
    }

    may : may_wait users accepted (length rest) before mail.targets (size_of mail.message) ≡ true
    may =
        and_from (list_all (λ user. nat_le (mail_weight (mails_for user before) + (size_of mail.message + 256)) MOST_WAITING_WEIGHT) (users_of mail.targets)) (can_follow (space_after before mail.targets (size_of mail.message)) users accepted (length rest) 0)
        (light-each mail.targets is-kept.unpulled (self-among mail.targets))
        (follow_from (space_after before mail.targets (size_of mail.message)) users accepted (length rest) 0 noted (enough-before users accepted before mail (length rest) (enough-rest users accepted (before ++ mail ∷ []) rest next-left.few next-left.rising next-left.kept)))

    number-test : (list_all (λ (m : KeptMail). nat_lt m.number mail.number) before && nat_le (mail.number + length rest) accepted && nat_lt 0 (length opens)) ≡ true
    number-test =
        let some = some-length mail.targets is-kept.waits in
        let many = many-open in
        let below = Every-weaker (λ (m : KeptMail). Every (λ (later : KeptMail). m.number < later.number) (mail ∷ rest)) (λ (m : KeptMail). m.number < mail.number) (λ m all. all.0) before left.below in
        let room = rising-room users accepted mail.number rest is-kept.so_far left.rising.0 left.rising.1 left.kept.1 in
        and_from (list_all (λ (m : KeptMail). nat_lt m.number mail.number) before && nat_le (mail.number + length rest) accepted) (nat_lt 0 (length opens))
        (and_from (list_all (λ (m : KeptMail). nat_lt m.number mail.number) before) (nat_le (mail.number + length rest) accepted) (below-all mail.number before below) (le-leb (mail.number + length rest) accepted room))
        (lt-ltb 0 (length opens) (omega (arith, some, many)))

    many-test : (nat_lt 0 (length mail.targets) && nat_le (length mail.targets) (length opens) && can_follow (space_of before) users accepted (length rest) (length mail.targets)) ≡ true
    many-test =
        and_from (nat_lt 0 (length mail.targets) && nat_le (length mail.targets) (length opens)) (can_follow (space_of before) users accepted (length rest) (length mail.targets))
        (and_from (nat_lt 0 (length mail.targets)) (nat_le (length mail.targets) (length opens)) (lt-ltb 0 (length mail.targets) (some-length mail.targets is-kept.waits)) (le-leb (length mail.targets) (length opens) many-open))
        (follow_from (space_of before) users accepted (length rest) (length mail.targets) noted (enough-many users accepted before rest mail left.few left.rising left.kept))

    reads-mail : ReadsAs (kept_format users accepted (length rest) before) (kept_fields mail) mail
    reads-mail =
        let number = mail.number in
        let targets = mail.targets in
        let message = mail.message in
        let upto = is-kept.so_far in
        let fits = and_parts (list_all target_fits targets) (is_message message) (and_parts (kept_fits mail) (list_all kept_fits rest) left.fit).0 in
        let size = leb-true (size_of message) 65536 (and_parts (list_all is_line message) (nat_le (size_of message) 65536) fits.1).1 in
        let test = may_wait users accepted (length rest) before targets in
        let room = greatest-least test 65536 (size_of message) size may in
        let many = many-open in
        let most = open-few (space_of before) number users in (
          number,
          _,
          lt-ltb number 18446744073709551616 (omega (arith, upto, small)),
          number-test,
          refl,
          (
            length targets,
            _,
            lt-ltb (length targets) 65536 (omega (arith, many, most, few-users)),
            many-test,
            refl,
            reads_bind (items_from (target_format opens) (length targets) []) (λ these. bind (message_within (greatest (may_wait users accepted (length rest) before these) 65536)) (λ this. ends (record { number = number; targets = these; message = this }))) (flat_map target_fields targets) (message_fields message) targets mail
                (reads-targets opens targets open-targets is-kept.apart fits.0)
                (ending (message_within (greatest test 65536)) (message_fields message) message (λ this. record { number = number; targets = targets; message = this }) (reads_message message (greatest test 65536) fits.1 room)),
          ),
        )

  pub reads_kept : (mails : List KeptMail) → KeptLeft users accepted [] mails → ReadsAs (items_from (kept_format users accepted) (length mails) []) (flat_map kept_fields mails) mails
  reads_kept mails left = reads_items (kept_format users accepted) kept_fields (KeptLeft users accepted) (λ before mail rest l. (reads-mail before rest mail l, next-left before rest mail l)) [] mails left
