-- Mails that wait, as they are read.
use Rattle.std.proofs.Common.{◌≡◌, ℕ, suc, ◌+◌, ◌-◌, ◌<◌, ◌≤◌, Bool, true, false, cond, not, ◌&&◌, nat_lt, nat_le, List, [], ◌∷◌, ◌++◌, length, refl, sym, ap, subst, ◌∙◌, append_assoc, arith, length-append}
use Rattle.std.specs.List.{list_all, flat_map, AllByRecursion as Every}
use Rattle.std.specs.Map.{keys_of}
use Rattle.std.proofs.lemmas.Bool.{leb-true, leb-false, le-leb, ltb-true, lt-ltb, le-ltb, and_parts, and_from, not-true, or_parts}
use Rattle.pc_base.specs.Name.{is_name}
use Rattle.pc_message.specs.Message.{size_of, weight_of}
use Rattle.pc_tables.specs.Table.{same, is_among}
use Rattle.pc_tables.specs.Order.{Ordered, AreDistinct}
use Rattle.pc_tables.proofs.Table.{same-sym, list_all-among}
use Rattle.pc_tables.proofs.Lists.{Every-weaker, Every-append, list_all-weaker, all-push}
use Rattle.pc_tables.proofs.Order.{Ordered-push}
use Rattle.pc_fields.specs.FieldBytes.{u16_field, u64_field, name_field, message_fields}
use Rattle.pc_fields.specs.Fitting.{is_message}
use Rattle.pc_fields.specs.Format.{ends, bind}
use Rattle.pc_fields.specs.Fields.{is_new}
use Rattle.pc_fields.specs.MessageFormat.{message_within}
use Rattle.pc_fields.proofs.Good.{Good, good_bind}
use Rattle.pc_fields.proofs.GoodMessage.{IsReadMessage, good_message}
use Rattle.pc_office_history.specs.declared.limits.TheConstants.{MOST_WAITING, MOST_WAITING_WEIGHT}
use Rattle.pc_office_history.specs.declared.kept.Target.{Target}
use Rattle.pc_office_history.specs.declared.kept.KeptMail.{KeptMail}
use Rattle.pc_office_history.specs.Record.{mails_for}
use Rattle.pc_office_history.specs.Limits.{mail_weight}
use Rattle.pc_office_history.specs.Step.{is_awaited}
use Rattle.pc_office_history.specs.Legal.{HasOtherUser, IsUnpulled, IsKept}
use Rattle.pc_office_spelling.specs.RecordSpelling.{target_fields, kept_fields}
use Rattle.pc_office_spelling.specs.RecordForm.{target_fits, kept_fits}
use Rattle.pc_office_spelling.specs.Spaces.{space_of, users_of, space_after, space_upto, can_follow, open_users, may_wait, greatest}
use Rattle.pc_office_spelling.specs.RecordFormat.{items_from, target_format, kept_format}
use Rattle.pc_office_spelling.proofs.Items.{AreItems, Next, good_items}
use Rattle.pc_office_spelling.proofs.Spaces.{Enough, enough_from, follow_from, greatest-most, greatest-passes}
use Rattle.pc_office_spelling.proofs.Waits.{Rising, AreFew, behind-long, behind-heavy, enough-least, enough-smaller, enough-behind}
use Rattle.pc_fields.proofs.NewNames.{free_one}
use Rattle.pc_office_spelling.proofs.OpenUsers.{open-distinct, open-all, open-below, open-some}

-- ---- targets

pub record TargetsBefore (names : List (List ℕ)) (count : ℕ) (before : List Target) : Type 0 where
  pub few : count + length before ≤ length names
  pub among : Every (λ (target : Target). is_among target.user names ≡ true) before
  pub apart : Ordered HasOtherUser before
  pub fit : list_all target_fits before ≡ true

pub users-long : (targets : List Target) → length (users_of targets) ≡ length targets
users-long [] = refl
users-long (target ∷ targets) = ap suc (users-long targets)

apart-from : (user : List ℕ) (targets : List Target) → is_among user (users_of targets) ≡ false → Every (λ (target : Target). same target.user user ≡ false) targets
apart-from user [] none = tt
apart-from user (target ∷ targets) none = let parts = or_parts (same user target.user) (is_among user (users_of targets)) none in (same-sym target.user user ∙ parts.0, apart-from user targets parts.1)

good-target : (names : List (List ℕ)) → AreDistinct names → list_all is_name names ≡ true → (count : ℕ) (before : List Target) (front : List (List ℕ)) → TargetsBefore names (suc count) before
    → Good (Next (target_format names) target_fields (TargetsBefore names) count before front) (target_format names count before) front
good-target names distinct fit count before front h =
    let few = h.few in
    let long = users-long before in
    let one = free_one names (users_of before) distinct (omega (arith, few, long)) in (
      (one.name, list_all-among is_name one.name names fit one.among, and_from (is_among one.name names) (is_new (users_of before) one.name) one.among (ap not one.free)),
      λ user is passed. (
        (97 ∷ [], refl, refl),
        λ mailbox is-mailbox _.
            let target : Target = record { user = user; mailbox = mailbox } in
            let parts = and_parts (is_among user names) (is_new (users_of before) user) passed in
            let size = length-append before (target ∷ []) in (
              append_assoc front (name_field user ∷ []) (name_field mailbox ∷ []),
              record {
                few = omega (arith, few, size);
                among = Every-append (λ (t : Target). is_among t.user names ≡ true) before (target ∷ []) h.among (parts.0, tt);
                apart = Ordered-push HasOtherUser before target h.apart (apart-from user before (not-true (is_among user (users_of before)) parts.1));
                fit = all-push target_fits before target h.fit (and_from (is_name user) (is_name mailbox) is is-mailbox);
              },
            ),
      ),
    )

-- ---- mails

none-below : (space : List ℕ → ℕ) (users : List (List ℕ × ℕ)) → space_upto space users 0 ≡ 0
none-below space [] = refl
none-below space (user ∷ users) = let rest = none-below space users in rw (le-ltb user.1 0 (omega arith)) (omega (arith, rest))

count-fits : (space : List ℕ → ℕ) (users : List (List ℕ × ℕ)) (accepted count taken : ℕ) → Enough space users accepted count taken → count ≤ accepted
count-fits space users accepted count taken enough =
    elim (nat_le count accepted) as (λ b. nat_le count accepted ≡ b → count ≤ accepted) [
      | true ↦ λ e. leb-true count accepted e
      | false ↦ λ e.
          let past = leb-false count accepted e in
          let all = enough 0 (omega arith) (omega (arith, past)) in
          let none = none-below space users in
          omega (arith, all, none)
    ] refl

all-below : (number : ℕ) (mails : List KeptMail) → list_all (λ (mail : KeptMail). nat_lt mail.number number) mails ≡ true → Every (λ (mail : KeptMail). mail.number < number) mails
all-below number [] all = tt
all-below number (mail ∷ mails) all = let parts = and_parts (nat_lt mail.number number) (list_all (λ (m : KeptMail). nat_lt m.number number) mails) all in (ltb-true mail.number number parts.0, all-below number mails parts.1)

pub below-all : (number : ℕ) (mails : List KeptMail) → Every (λ (mail : KeptMail). mail.number < number) mails → list_all (λ (mail : KeptMail). nat_lt mail.number number) mails ≡ true
below-all number [] below = refl
below-all number (mail ∷ mails) below = and_from (nat_lt mail.number number) (list_all (λ (m : KeptMail). nat_lt m.number number) mails) (lt-ltb mail.number number below.0) (below-all number mails below.1)

pub among-targets : (names : List (List ℕ)) (targets : List Target) → Every (λ (target : Target). is_among target.user names ≡ true) targets → Every (λ (name : List ℕ). is_among name names ≡ true) (users_of targets)
among-targets names [] among = tt
among-targets names (target ∷ targets) among = (among.0, among-targets names targets among.1)

all-names : (p : List ℕ → Bool) (names : List (List ℕ)) → Every (λ (name : List ℕ). p name ≡ true) names → list_all p names ≡ true
all-names p [] all = refl
all-names p (name ∷ names) all = and_from (p name) (list_all p names) all.0 (all-names p names all.1)

awaited : (targets : List Target) → 0 < length targets → is_awaited targets ≡ true
awaited [] some = absurd (omega (arith, some))
awaited (target ∷ targets) some = refl

pub record KeptBefore (users : List (List ℕ × ℕ)) (accepted count : ℕ) (before : List KeptMail) : Type 0 where
  pub rising : Rising before
  pub upto : Every (λ (mail : KeptMail). mail.number + count ≤ accepted) before
  pub kept : Every (IsKept users accepted) before
  pub fit : list_all kept_fits before ≡ true
  pub few : AreFew users before
  pub enough : Enough (space_of before) users accepted count 0

mail-spelled : (front : List (List ℕ)) (a b : List ℕ) (these message : List (List ℕ)) → (((front ++ a ∷ []) ++ b ∷ []) ++ these) ++ message ≡ front ++ (a ∷ (b ∷ (these ++ message)))
mail-spelled front a b these message = append_assoc ((front ++ a ∷ []) ++ b ∷ []) these message ∙ append_assoc (front ++ a ∷ []) (b ∷ []) (these ++ message) ∙ append_assoc front (a ∷ []) (b ∷ (these ++ message))

module _ (users : List (List ℕ × ℕ)) (accepted : ℕ) (distinct : AreDistinct (keys_of users)) (names-fit : list_all is_name (keys_of users) ≡ true) (noted : Every (λ (user : List ℕ × ℕ). user.1 ≤ accepted) users) (small : accepted ≤ 9223372036854775807) where
  module _ (count : ℕ) (before : List KeptMail) (number : ℕ) where
    abbrev open_now : List (List ℕ)
    open_now = open_users (space_of before) users number

    open-fit : list_all is_name open_now ≡ true
    open-fit = open-all (space_of before) number is_name users names-fit

    -- each of the targets has space for one
    light-least : (targets : List Target) → Every (λ (target : Target). is_among target.user open_now ≡ true) targets → list_all (λ user. nat_le (mail_weight (mails_for user before) + 256) MOST_WAITING_WEIGHT) (users_of targets) ≡ true
    light-least [] among = refl
    light-least (target ∷ targets) among =
        let some = ltb-true 0 (space_of before target.user) (open-below (space_of before) number target.user users distinct among.0).1 in
        and_from (nat_le (mail_weight (mails_for target.user before) + 256) MOST_WAITING_WEIGHT) (list_all (λ user. nat_le (mail_weight (mails_for user before) + 256) MOST_WAITING_WEIGHT) (users_of targets))
        (le-leb (mail_weight (mails_for target.user before) + 256) MOST_WAITING_WEIGHT (omega (arith, some))) (light-least targets among.1)

    least-may : (targets : List Target) → Every (λ (target : Target). is_among target.user open_now ≡ true) targets → Enough (space_of before) users accepted count (length targets) → may_wait users accepted count before targets 0 ≡ true
    least-may targets among enough =
        and_from (list_all (λ user. nat_le (mail_weight (mails_for user before) + 256) MOST_WAITING_WEIGHT) (users_of targets)) (can_follow (space_after before targets 0) users accepted count 0) (light-least targets among)
        (follow_from (space_after before targets 0) users accepted count 0 noted (enough-least users accepted before targets count distinct enough))

    -- what holds behind one mail more
    module _ (h : KeptBefore users accepted (suc count) before) (below : Every (λ (mail : KeptMail). mail.number < number) before) (upto : number + count ≤ accepted) (targets : List Target) (message : List (List ℕ)) (these : TargetsBefore open_now 0 targets) (some : 0 < length targets)
        (is : is_message message ≡ true) (may : may_wait users accepted count before targets (size_of message) ≡ true) where
      abbrev mail : KeptMail
      mail = record { number = number; targets = targets; message = message }

      abbrev light : Bool
      light = list_all (λ user. nat_le (mail_weight (mails_for user before) + (size_of message + 256)) MOST_WAITING_WEIGHT) (users_of targets)

      may-parts : (light ≡ true) × (can_follow (space_after before targets (size_of message)) users accepted count 0 ≡ true)
      may-parts = and_parts light (can_follow (space_after before targets (size_of message)) users accepted count 0) may

      unpulled : (some : List Target) → Every (λ (target : Target). is_among target.user open_now ≡ true) some → Every (IsUnpulled users number) some
      unpulled [] among = tt
      unpulled (target ∷ some) among = ((open-below (space_of before) number target.user users distinct among.0).0, unpulled some among.1)

      few-behind : (some : List (List ℕ × ℕ)) → AreFew some before → AreFew some (before ++ mail ∷ [])
      few-behind [] few = tt
      few-behind (user ∷ some) few = (here, few-behind some few.1)
        where
          here : (length (mails_for user.0 (before ++ mail ∷ [])) ≤ MOST_WAITING) × (mail_weight (mails_for user.0 (before ++ mail ∷ [])) ≤ MOST_WAITING_WEIGHT)
          here =
              let long = behind-long mail user.0 before in
              let heavy = behind-heavy mail user.0 before in
              let few-now = few.0.0 in
              let light-now = few.0.1 in
              elim (is_among user.0 (users_of targets)) as (λ b. is_among user.0 (users_of targets) ≡ b → length (mails_for user.0 (before ++ mail ∷ [])) ≡ length (mails_for user.0 before) + cond b 1 0 → mail_weight (mails_for user.0 (before ++ mail ∷ [])) ≡ mail_weight (mails_for user.0 before) + cond b (weight_of message) 0
              → (length (mails_for user.0 (before ++ mail ∷ [])) ≤ MOST_WAITING) × (mail_weight (mails_for user.0 (before ++ mail ∷ [])) ≤ MOST_WAITING_WEIGHT)) [
                | true ↦ λ e l w.
                    let among = list_all-among (λ (name : List ℕ). is_among name open_now) user.0 (users_of targets) (all-names (λ (name : List ℕ). is_among name open_now) (users_of targets) (among-targets open_now targets these.among)) e in
                    let space = ltb-true 0 (space_of before user.0) (open-below (space_of before) number user.0 users distinct among).1 in
                    let fits = leb-true (mail_weight (mails_for user.0 before) + (size_of message + 256)) MOST_WAITING_WEIGHT (list_all-among (λ (name : List ℕ). nat_le (mail_weight (mails_for name before) + (size_of message + 256)) MOST_WAITING_WEIGHT) user.0 (users_of targets) may-parts.0 e) in
                    (omega (arith, l, space), omega (arith, w, fits))
                | false ↦ λ e l w. (omega (arith, l, few-now), omega (arith, w, light-now))
              ] refl long heavy

      pub kept-behind : KeptBefore users accepted count (before ++ mail ∷ [])
      kept-behind = record {
        rising = Ordered-push (λ (a b : KeptMail). a.number < b.number) before mail h.rising below;
        upto = Every-append (λ (m : KeptMail). m.number + count ≤ accepted) before (mail ∷ []) (Every-weaker (λ (m : KeptMail). m.number + suc count ≤ accepted) (λ (m : KeptMail). m.number + count ≤ accepted) (λ m le. omega (arith, le)) before h.upto) (upto, tt);
        kept = Every-append (IsKept users accepted) before (mail ∷ []) h.kept (record { waits = awaited targets some; apart = these.apart; unpulled = unpulled targets these.among; so_far = omega (arith, upto) }, tt);
        fit = all-push kept_fits before mail h.fit (and_from (list_all target_fits targets) (is_message message) these.fit is);
        few = few-behind users h.few;
        enough = enough-behind users accepted before mail count (enough_from (space_after before targets (size_of message)) users accepted count 0 may-parts.1);
      }

  -- a smaller message may wait too
  may-smaller : (count : ℕ) (before : List KeptMail) (targets : List Target) (size smaller : ℕ) → smaller ≤ size → may_wait users accepted count before targets size ≡ true → may_wait users accepted count before targets smaller ≡ true
  may-smaller count before targets size smaller fewer may =
      let parts = and_parts (list_all (λ user. nat_le (mail_weight (mails_for user before) + (size + 256)) MOST_WAITING_WEIGHT) (users_of targets)) (can_follow (space_after before targets size) users accepted count 0) may in
      and_from (list_all (λ user. nat_le (mail_weight (mails_for user before) + (smaller + 256)) MOST_WAITING_WEIGHT) (users_of targets)) (can_follow (space_after before targets smaller) users accepted count 0)
      (list_all-weaker (λ user. nat_le (mail_weight (mails_for user before) + (size + 256)) MOST_WAITING_WEIGHT) (λ user. nat_le (mail_weight (mails_for user before) + (smaller + 256)) MOST_WAITING_WEIGHT) (users_of targets)
      (λ user le. let most = leb-true (mail_weight (mails_for user before) + (size + 256)) MOST_WAITING_WEIGHT le in le-leb (mail_weight (mails_for user before) + (smaller + 256)) MOST_WAITING_WEIGHT (omega (arith, most, fewer))) parts.0)
      (follow_from (space_after before targets smaller) users accepted count 0 noted (enough-smaller users accepted before targets count size smaller fewer (enough_from (space_after before targets size) users accepted count 0 parts.1)))

  good-kept : (count : ℕ) (before : List KeptMail) (front : List (List ℕ)) → KeptBefore users accepted (suc count) before
      → Good (Next (kept_format users accepted) kept_fields (KeptBefore users accepted) count before front) (kept_format users accepted count before) front
  good-kept count before front h =
      let enough = h.enough in
      let room = count-fits (space_of before) users accepted (suc count) 0 enough in
      let last = accepted - count in
      let reach : last + count ≡ accepted = omega (arith, room) in
      let most = enough last (omega arith) (omega (arith, reach)) in
      let somebody = open-some (space_of before) last users (omega (arith, most, reach)) in
      let upto-last = Every-weaker (λ (m : KeptMail). m.number + suc count ≤ accepted) (λ (m : KeptMail). m.number < last) (λ m le. omega (arith, le)) before h.upto in (
        (
          last,
          lt-ltb last 18446744073709551616 (omega (arith, small)),
          and_from (list_all (λ (mail : KeptMail). nat_lt mail.number last) before && nat_le (last + count) accepted) (nat_lt 0 (length (open_users (space_of before) users last)))
              (and_from (list_all (λ (mail : KeptMail). nat_lt mail.number last) before) (nat_le (last + count) accepted) (below-all last before upto-last) (le-leb (last + count) accepted (omega (arith, reach))))
              (lt-ltb 0 (length (open_users (space_of before) users last)) somebody),
        ),
        λ number fit passed.
            let outer = and_parts (list_all (λ (mail : KeptMail). nat_lt mail.number number) before && nat_le (number + count) accepted) (nat_lt 0 (length (open_users (space_of before) users number))) passed in
            let inner = and_parts (list_all (λ (mail : KeptMail). nat_lt mail.number number) before) (nat_le (number + count) accepted) outer.0 in
            let below = all-below number before inner.0 in
            let upto = leb-true (number + count) accepted inner.1 in
            let opens = open_users (space_of before) users number in
            let some-open = ltb-true 0 (length opens) outer.1 in (
              (
                1,
                refl,
                and_from (nat_lt 0 1 && nat_le 1 (length opens)) (can_follow (space_of before) users accepted count 1)
                    (and_from (nat_lt 0 1) (nat_le 1 (length opens)) refl (le-leb 1 (length opens) (omega (arith, some-open))))
                    (follow_from (space_of before) users accepted count 1 noted (λ n le past. let all = enough n le (omega (arith, past)) in omega (arith, all))),
              ),
              λ many fit-many passed-many.
                  let first = and_parts (nat_lt 0 many && nat_le many (length opens)) (can_follow (space_of before) users accepted count many) passed-many in
                  let second = and_parts (nat_lt 0 many) (nat_le many (length opens)) first.0 in
                  good-rest count before front h number below upto many (ltb-true 0 many second.0) (leb-true many (length opens) second.1) (enough_from (space_of before) users accepted count many first.1),
            ),
      )
    where
      good-rest : (count : ℕ) (before : List KeptMail) (front : List (List ℕ)) → KeptBefore users accepted (suc count) before → (number : ℕ) → Every (λ (mail : KeptMail). mail.number < number) before → number + count ≤ accepted
          → (many : ℕ) → 0 < many → many ≤ length (open_users (space_of before) users number) → Enough (space_of before) users accepted count many
          → Good (Next (kept_format users accepted) kept_fields (KeptBefore users accepted) count before front)
          (bind (items_from (target_format (open_users (space_of before) users number)) many []) (λ targets. bind (message_within (greatest (may_wait users accepted count before targets) 65536)) (λ message. ends (record { number = number; targets = targets; message = message }))))
          ((front ++ u64_field number ∷ []) ++ u16_field many ∷ [])
      good-rest count before front h number below upto many some few enough =
          let opens = open_users (space_of before) users number in
          let behind = (front ++ u64_field number ∷ []) ++ u16_field many ∷ [] in
          let Q = Next (kept_format users accepted) kept_fields (KeptBefore users accepted) count before front in
          good_bind (AreItems target_fields (TargetsBefore opens) behind many) Q (items_from (target_format opens) many []) (λ targets. bind (message_within (greatest (may_wait users accepted count before targets) 65536)) (λ message. ends (record { number = number; targets = targets; message = message }))) behind
          (good_items (target_format opens) target_fields (TargetsBefore opens) (good-target opens (open-distinct (space_of before) number users distinct) (open-fit count before number)) many behind (record { few = omega (arith, few); among = tt; apart = tt; fit = refl }))
          (λ fields targets these.
          let test = may_wait users accepted count before targets in
          let counted = these.counted in
          let least = least-may count before number targets these.holds.among (subst (λ (n : ℕ). Enough (space_of before) users accepted count n) (sym counted) enough) in
          good_bind (IsReadMessage (greatest test 65536) fields) Q (message_within (greatest test 65536)) (λ message. ends (record { number = number; targets = targets; message = message })) fields (good_message (greatest test 65536) fields (greatest-most test 65536))
          (λ more message this. (
            this.spelled ∙ ap (λ (f : List (List ℕ)). f ++ message_fields message) these.spelled ∙ mail-spelled front (u64_field number) (u16_field many) (flat_map target_fields targets) (message_fields message)
                ∙ ap (λ (n : ℕ). front ++ (u64_field number ∷ (u16_field n ∷ (flat_map target_fields targets ++ message_fields message)))) (sym counted),
            kept-behind count before number h below upto targets message these.holds (omega (arith, some, counted)) this.is (may-smaller count before targets (greatest test 65536) (size_of message) this.size (greatest-passes test 65536 least)),
          )))

  pub good_kept : (count : ℕ) (front : List (List ℕ)) → KeptBefore users accepted count [] → Good (AreItems kept_fields (KeptBefore users accepted) front count) (items_from (kept_format users accepted) count []) front
  good_kept count front start = good_items (kept_format users accepted) kept_fields (KeptBefore users accepted) good-kept count front start
