-- Mailboxes as they are read.
use Rattle.std.proofs.Common.{◌≡◌, ℕ, zero, suc, ◌+◌, ◌-◌, ◌*◌, ◌/◌, ◌≤◌, ◌&&◌, ◌||◌, min, Bool, true, false, cond, not, List, [], ◌∷◌, ◌++◌, length, refl, sym, ap, subst, ◌∙◌, append_assoc, arith, true≢false, length-append}
use Rattle.std.specs.List.{list_all, flat_map, AllByRecursion as Every}
use Rattle.std.specs.Map.{keys_of}
use Rattle.std.proofs.lemmas.Bool.{lt-ltb, and_from}
use Rattle.std.proofs.lemmas.List.{append-nil}
use Rattle.pc_base.specs.Name.{is_name}
use Rattle.pc_message.specs.Message.{weight_of}
use Rattle.pc_account_history.specs.declared.kept.Kept.{Kept}
use Rattle.pc_account_history.specs.declared.kept.Listed.{Listed}
use Rattle.pc_account_history.specs.declared.limits.TheConstants.{MOST_MESSAGES, MOST_WEIGHT, MOST_CHANGES}
use Rattle.pc_tables.specs.Table.{total}
use Rattle.pc_account_history.specs.Record.{MailboxRecord}
use Rattle.pc_tables.specs.Order.{AreDistinct}
use Rattle.pc_account_history.specs.Legal.{AreListsOf, IsMailbox}
use Rattle.pc_tables.proofs.Lists.{Every-append, all-push}
use Rattle.pc_tables.proofs.Totals.{total-append}
use Rattle.pc_fields.specs.FieldBytes.{name_field, bool_field, u16_field, u32_field, long_list, short_list}
use Rattle.pc_account_spelling.specs.Spelling.{kept_fields, update_list_fields, mailbox_fields}
use Rattle.pc_fields.specs.Fields.{u16_kind, within, is_new}
use Rattle.pc_fields.specs.Format.{ends, goes, bind}
use Rattle.pc_fields.specs.Fitting.{is_u32}
use Rattle.pc_account_spelling.specs.RecordForm.{client_fits, kept_fits, list_fits, mailbox_fits}
use Rattle.pc_account_spelling.specs.RecordFormat.{has_none, messages_from, lists_from, mailbox_format, weight_under, changes_under, mailboxes_from, mailboxes_format}
use Rattle.pc_tables.proofs.Distinct.{distinct-push}
use Rattle.pc_tables.proofs.Table.{keys-push, length-keys}
use Rattle.pc_fields.proofs.Good.{Good, good_bind, good_weaker}
use Rattle.pc_fields.proofs.NewNames.{new_name}
use Rattle.pc_fields.proofs.Pushes.{within-parts, is-within}
use Rattle.pc_account_spelling.proofs.GoodMessages.{AreReadMessages, good_messages}
use Rattle.pc_account_spelling.proofs.GoodLists.{AreReadLists, good_lists}

abbrev pub weight_of_box : MailboxRecord → ℕ
weight_of_box box = total (λ (kept : Kept). weight_of kept.message) box.messages

abbrev pub changes_of_box : MailboxRecord → ℕ
changes_of_box box = total (λ (list : List ℕ × List Listed). length list.1) box.lists

abbrev pub Table : Type 0
Table = List (List ℕ × MailboxRecord)

-- what stands behind the name of a mailbox and the byte that says whether it lives
abbrev pub box_fields : MailboxRecord → List (List ℕ)
box_fields box = (u32_field box.highest ∷ long_list kept_fields box.messages) ++ short_list update_list_fields box.lists

-- a mailbox was read: at most so many messages, of this weight, and so many changes
pub record IsReadMailbox (clients : List (List ℕ × ℕ)) (most weight changes : ℕ) (front fields : List (List ℕ)) (box : MailboxRecord) : Type 0 where
  pub spelled : fields ≡ front ++ box_fields box
  pub is : IsMailbox 9223372036854775808 clients box
  pub uids : box.highest ≤ 1000000000
  pub few : length box.messages ≤ most
  pub light : weight_of_box box ≤ weight
  pub listed : changes_of_box box ≤ changes
  pub messages_fit : list_all kept_fits box.messages ≡ true
  pub lists_fit : list_all list_fits box.lists ≡ true

box-parts : (front : List (List ℕ)) (x y z : List ℕ) (ms ls : List (List ℕ)) → (((front ++ x ∷ []) ++ y ∷ []) ++ ms) ++ (z ∷ ls) ≡ front ++ ((x ∷ y ∷ ms) ++ (z ∷ ls))
box-parts front x y z ms ls =
    ap (λ (t : List (List ℕ)). t ++ (z ∷ ls)) (append_assoc (front ++ x ∷ []) (y ∷ []) ms ∙ append_assoc front (x ∷ []) (y ∷ ms)) ∙ append_assoc front (x ∷ y ∷ ms) (z ∷ ls)

module _ (clients : List (List ℕ × ℕ)) (most weight changes : ℕ) (front : List (List ℕ)) (births : list_all client_fits clients ≡ true) (few-clients : length clients ≤ 16) where
  mailbox-read : (highest count : ℕ) (messages : List Kept) (second third fields : List (List ℕ)) (lists : List (List ℕ × List Listed)) (n : ℕ)
      → highest ≤ 1000000000 → count ≤ most
      → AreReadMessages highest count weight ((front ++ u32_field highest ∷ []) ++ u32_field count ∷ []) second messages → n ≡ length clients
      → AreReadLists highest changes clients [] (second ++ u16_field n ∷ []) fields lists
      → IsReadMailbox clients most weight changes front fields (record { highest = highest; messages = messages; lists = lists })
  mailbox-read highest count messages second third fields lists n uids within-most read counted-clients listed =
      let counted = read.counted in
      let same : lists ≡ listed.rest = listed.is in
      let size = lists-length clients listed.rest listed.are in
      let n-is : n ≡ length listed.rest = counted-clients ∙ sym size in
      record {
        spelled =
            listed.spelled ∙ append_assoc second (u16_field n ∷ []) (flat_map update_list_fields listed.rest) ∙ ap (λ (t : List (List ℕ)). t ++ (u16_field n ∷ flat_map update_list_fields listed.rest)) read.spelled
            ∙ box-parts front (u32_field highest) (u32_field count) (u16_field n) (flat_map kept_fields messages) (flat_map update_list_fields listed.rest)
            ∙ ap (λ (k : ℕ). front ++ ((u32_field highest ∷ u32_field k ∷ flat_map kept_fields messages) ++ (u16_field n ∷ flat_map update_list_fields listed.rest))) (sym counted)
            ∙ ap (λ (k : ℕ). front ++ ((u32_field highest ∷ long_list kept_fields messages) ++ (u16_field k ∷ flat_map update_list_fields listed.rest))) n-is
            ∙ ap (λ (ls : List (List ℕ × List Listed)). front ++ ((u32_field highest ∷ long_list kept_fields messages) ++ short_list update_list_fields ls)) (sym same);
        is = record { messages = read.are; lists = subst (AreListsOf 9223372036854775808 highest clients) (sym same) listed.are };
        uids = uids;
        few = omega (arith, counted, within-most);
        light = read.light;
        listed = subst (λ (ls : List (List ℕ × List Listed)). total (λ (list : List ℕ × List Listed). length list.1) ls ≤ changes) (sym same) listed.few;
        messages_fit = read.fit;
        lists_fit = subst (λ (ls : List (List ℕ × List Listed)). list_all list_fits ls ≡ true) (sym same) listed.fit;
      }
    where
      lists-length : (clients : List (List ℕ × ℕ)) (lists : List (List ℕ × List Listed)) → AreListsOf 9223372036854775808 highest clients lists → length lists ≡ length clients
      lists-length [] [] h = refl
      lists-length [] (list ∷ lists) h = absurd h
      lists-length (client ∷ clients) [] h = absurd h
      lists-length (client ∷ clients) (list ∷ lists) h = ap suc (lists-length clients lists h.2)

  pub good_mailbox : Good (IsReadMailbox clients most weight changes front) (mailbox_format clients most weight changes) front
  good_mailbox = (
    (0, refl, refl),
    λ highest fit passed.
        let uids = (within-parts 0 1000000000 highest passed).1 in (
          (0, refl, is-within 0 (min most (min highest (weight / 256))) 0 (omega arith) (omega arith)),
          λ count count-fit count-passed.
              let range = (within-parts 0 (min most (min highest (weight / 256))) count count-passed).1 in
              let here = (front ++ u32_field highest ∷ []) ++ u32_field count ∷ [] in
              let enough : 256 * count ≤ weight = omega (arith, range) in
              good_bind (AreReadMessages highest count weight here) (IsReadMailbox clients most weight changes front) (messages_from highest count 0 weight []) (λ messages. goes u16_kind (within (length clients) (length clients)) (λ _. bind (lists_from highest changes clients []) (λ lists. ends (record { highest = highest; messages = messages; lists = lists })))) here
              (subst (Good (AreReadMessages highest count weight here) (messages_from highest count 0 weight [])) (append-nil here)
              (good_messages highest weight count here (omega (arith, uids)) count 0 weight [] (record { rising = tt; upto = tt; fit = refl; light = omega arith }) (omega (arith, range)) enough (omega arith)))
              (λ second messages read. (
                (length clients, lt-ltb (length clients) 65536 (omega (arith, few-clients)), is-within (length clients) (length clients) (length clients) (omega arith) (omega arith)),
                λ n n-fit n-passed.
                    let n-range = within-parts (length clients) (length clients) n n-passed in
                    good_bind (AreReadLists highest changes clients [] (second ++ u16_field n ∷ [])) (IsReadMailbox clients most weight changes front) (lists_from highest changes clients []) (λ lists. ends (record { highest = highest; messages = messages; lists = lists })) (second ++ u16_field n ∷ [])
                    (good_lists highest changes clients [] (second ++ u16_field n ∷ []) (omega (arith, uids)) births)
                    (λ fields lists listed. mailbox-read highest count messages second second fields lists n uids (omega (arith, range)) read (omega (arith, n-range.0, n-range.1)) listed),
              )),
        ),
  )

-- ---- all mailboxes

-- mailboxes that were read
pub record AreMailboxes (clients : List (List ℕ × ℕ)) (live dropped : Table) : Type 0 where
  pub distinct : AreDistinct (keys_of live ++ keys_of dropped)
  pub live_are : Every (λ (mailbox : List ℕ × MailboxRecord). IsMailbox 9223372036854775808 clients mailbox.1) live
  pub dropped_are : Every (λ (mailbox : List ℕ × MailboxRecord). IsMailbox 9223372036854775808 clients mailbox.1 × (mailbox.1.messages ≡ [])) dropped
  pub live_uids : Every (λ (mailbox : List ℕ × MailboxRecord). mailbox.1.highest ≤ 1000000000) live
  pub dropped_uids : Every (λ (mailbox : List ℕ × MailboxRecord). mailbox.1.highest ≤ 1000000000) dropped
  pub live_few : Every (λ (mailbox : List ℕ × MailboxRecord). length mailbox.1.messages ≤ 4096) live
  pub light : weight_under live ≤ 16777216
  pub listed : changes_under live + changes_under dropped ≤ 1048576
  pub live_fit : list_all mailbox_fits live ≡ true
  pub dropped_fit : list_all mailbox_fits dropped ≡ true

no-names-more : (names : List (List ℕ)) → names ++ [] ≡ names
no-names-more [] = refl
no-names-more (name ∷ names) = ap (λ (t : List (List ℕ)). name ∷ t) (no-names-more names)

box-fits : (clients : List (List ℕ × ℕ)) (most weight changes : ℕ) (front fields : List (List ℕ)) (name : List ℕ) (box : MailboxRecord) → is_name name ≡ true → IsReadMailbox clients most weight changes front fields box → mailbox_fits (name, box) ≡ true
box-fits clients most weight changes front fields name box is read =
    let uids = read.uids in
    and_from (is_name name && is_u32 box.highest && list_all kept_fits box.messages) (list_all list_fits box.lists)
    (and_from (is_name name && is_u32 box.highest) (list_all kept_fits box.messages) (and_from (is_name name) (is_u32 box.highest) is (lt-ltb box.highest 4294967296 (omega (arith, uids)))) read.messages_fit) read.lists_fit

-- one that lives
live-push : (clients : List (List ℕ × ℕ)) (live : Table) (front fields : List (List ℕ)) (name : List ℕ) (box : MailboxRecord) → AreMailboxes clients live [] → is_name name ≡ true → is_new (keys_of live ++ []) name ≡ true → IsReadMailbox clients 4096 (16777216 - weight_under live) (1048576 - (changes_under live + 0)) front fields box → AreMailboxes clients (live ++ (name, box) ∷ []) []
live-push clients live front fields name box before is new read =
    let entry : List ℕ × MailboxRecord = (name, box) in
    let heavier = total-append (λ (mailbox : List ℕ × MailboxRecord). weight_of_box mailbox.1) live (entry ∷ []) in
    let longer = total-append (λ (mailbox : List ℕ × MailboxRecord). changes_of_box mailbox.1) live (entry ∷ []) in
    let light = before.light in
    let listed = before.listed in
    let box-light = read.light in
    let box-listed = read.listed in
    record {
      distinct = subst AreDistinct (ap (λ (names : List (List ℕ)). names ++ name ∷ []) (no-names-more (keys_of live)) ∙ sym (keys-push live name box) ∙ sym (no-names-more (keys_of (live ++ entry ∷ [])))) (distinct-push (keys_of live ++ []) name before.distinct new);
      live_are = Every-append (λ (mailbox : List ℕ × MailboxRecord). IsMailbox 9223372036854775808 clients mailbox.1) live (entry ∷ []) before.live_are (read.is, tt);
      dropped_are = tt;
      live_uids = Every-append (λ (mailbox : List ℕ × MailboxRecord). mailbox.1.highest ≤ 1000000000) live (entry ∷ []) before.live_uids (read.uids, tt);
      dropped_uids = tt;
      live_few = Every-append (λ (mailbox : List ℕ × MailboxRecord). length mailbox.1.messages ≤ 4096) live (entry ∷ []) before.live_few (read.few, tt);
      light = omega (arith, heavier, light, box-light);
      listed = omega (arith, longer, listed, box-listed);
      live_fit = all-push mailbox_fits live entry before.live_fit (box-fits clients 4096 (16777216 - weight_under live) (1048576 - (changes_under live + 0)) front fields name box is read);
      dropped_fit = refl;
    }

no-messages : (messages : List Kept) → length messages ≤ 0 → messages ≡ []
no-messages [] h = refl
no-messages (kept ∷ messages) h = absurd (omega (arith, h))

-- one that doesn't
dropped-push : (clients : List (List ℕ × ℕ)) (live dropped : Table) (front fields : List (List ℕ)) (name : List ℕ) (box : MailboxRecord) → AreMailboxes clients live dropped → is_name name ≡ true → is_new (keys_of live ++ keys_of dropped) name ≡ true → IsReadMailbox clients 0 (16777216 - weight_under live) (1048576 - (changes_under live + changes_under dropped)) front fields box → AreMailboxes clients live (dropped ++ (name, box) ∷ [])
dropped-push clients live dropped front fields name box before is new read =
    let entry : List ℕ × MailboxRecord = (name, box) in
    let longer = total-append (λ (mailbox : List ℕ × MailboxRecord). changes_of_box mailbox.1) dropped (entry ∷ []) in
    let listed = before.listed in
    let box-listed = read.listed in
    record {
      distinct = subst AreDistinct (append_assoc (keys_of live) (keys_of dropped) (name ∷ []) ∙ ap (λ (names : List (List ℕ)). keys_of live ++ names) (sym (keys-push dropped name box))) (distinct-push (keys_of live ++ keys_of dropped) name before.distinct new);
      live_are = before.live_are;
      dropped_are = Every-append (λ (mailbox : List ℕ × MailboxRecord). IsMailbox 9223372036854775808 clients mailbox.1 × (mailbox.1.messages ≡ [])) dropped (entry ∷ []) before.dropped_are ((read.is, no-messages box.messages read.few), tt);
      live_uids = before.live_uids;
      dropped_uids = Every-append (λ (mailbox : List ℕ × MailboxRecord). mailbox.1.highest ≤ 1000000000) dropped (entry ∷ []) before.dropped_uids (read.uids, tt);
      live_few = before.live_few;
      light = before.light;
      listed = omega (arith, longer, listed, box-listed);
      live_fit = before.live_fit;
      dropped_fit = all-push mailbox_fits dropped entry before.dropped_fit (box-fits clients 0 (16777216 - weight_under live) (1048576 - (changes_under live + changes_under dropped)) front fields name box is read);
    }

-- mailboxes were read behind those before
pub record AreReadMailboxes (clients : List (List ℕ × ℕ)) (whole : ℕ) (front fields : List (List ℕ)) (mailboxes : Table × Table) : Type 0 where
  pub spelled : fields ≡ front ++ (flat_map (mailbox_fields true) mailboxes.0 ++ flat_map (mailbox_fields false) mailboxes.1)
  pub are : AreMailboxes clients mailboxes.0 mailboxes.1
  pub counted : length mailboxes.0 + length mailboxes.1 ≡ whole

mailbox-parts : (front : List (List ℕ)) (n b : List ℕ) (box : List (List ℕ)) → ((front ++ n ∷ []) ++ b ∷ []) ++ box ≡ front ++ (n ∷ b ∷ box)
mailbox-parts front n b box = append_assoc (front ++ n ∷ []) (b ∷ []) box ∙ append_assoc front (n ∷ []) (b ∷ box)

flat-push : {X : Type 0} (f : X → List (List ℕ)) (xs : List X) (x : X) → flat_map f (xs ++ x ∷ []) ≡ flat_map f xs ++ f x
flat-push f [] x = append-nil (f x)
flat-push f (y ∷ xs) x = ap (λ (t : List (List ℕ)). f y ++ t) (flat-push f xs x) ∙ sym (append_assoc (f y) (flat_map f xs) (f x))

abbrev mailboxes-written : Table → Table → List (List ℕ)
mailboxes-written live dropped = flat_map (mailbox_fields true) live ++ flat_map (mailbox_fields false) dropped

written-live : (live : Table) (name : List ℕ) (box : MailboxRecord) → mailboxes-written live [] ++ mailbox_fields true (name, box) ≡ mailboxes-written (live ++ (name, box) ∷ []) []
written-live live name box = ap (λ (t : List (List ℕ)). t ++ mailbox_fields true (name, box)) (append-nil (flat_map (mailbox_fields true) live)) ∙ sym (flat-push (mailbox_fields true) live (name, box)) ∙ sym (append-nil (flat_map (mailbox_fields true) (live ++ (name, box) ∷ [])))

written-dropped : (live dropped : Table) (name : List ℕ) (box : MailboxRecord) → mailboxes-written live dropped ++ mailbox_fields false (name, box) ≡ mailboxes-written live (dropped ++ (name, box) ∷ [])
written-dropped live dropped name box = append_assoc (flat_map (mailbox_fields true) live) (flat_map (mailbox_fields false) dropped) (mailbox_fields false (name, box)) ∙ ap (λ (t : List (List ℕ)). flat_map (mailbox_fields true) live ++ t) (sym (flat-push (mailbox_fields false) dropped (name, box)))

none-dropped : (dropped : Table) → has_none dropped ≡ true → dropped ≡ []
none-dropped [] e = refl
none-dropped (entry ∷ dropped) e = absurd (true≢false (sym e))

length-both : {X Y : Type 0} (xs : List (List ℕ × X)) (ys : List (List ℕ × Y)) → length (keys_of xs ++ keys_of ys) ≡ length xs + length ys
length-both xs ys = length-append (keys_of xs) (keys_of ys) ∙ (λ i. length-keys xs i + length-keys ys i)

module _ (clients : List (List ℕ × ℕ)) (whole : ℕ) (front : List (List ℕ)) (births : list_all client_fits clients ≡ true) (few-clients : length clients ≤ 16) where
  abbrev Q : List (List ℕ) → Table × Table → Type 0
  Q = AreReadMailboxes clients whole front

  -- what reads a mailbox of this name, and those behind it
  abbrev GoodOne : (lives : Bool) → (count : ℕ) → List ℕ → Table → Table → Type 0
  GoodOne lives count name live dropped =
      Good Q (bind (mailbox_format clients (cond lives MOST_MESSAGES 0) (MOST_WEIGHT - weight_under live) (MOST_CHANGES - (changes_under live + changes_under dropped))) (λ box. cond lives (mailboxes_from clients count (live ++ (name, box) ∷ []) dropped) (mailboxes_from clients count live (dropped ++ (name, box) ∷ []))))
      (((front ++ mailboxes-written live dropped) ++ name_field name ∷ []) ++ bool_field lives ∷ [])

  abbrev GoodRest : ℕ → Table → Table → Type 0
  GoodRest count live dropped = AreMailboxes clients live dropped → whole ≡ count + (length live + length dropped) → Good Q (mailboxes_from clients count live dropped) (front ++ mailboxes-written live dropped)

  one-dropped : (count : ℕ) (name : List ℕ) (live dropped : Table) → AreMailboxes clients live dropped → whole ≡ suc count + (length live + length dropped) → is_name name ≡ true → is_new (keys_of live ++ keys_of dropped) name ≡ true → ((box : MailboxRecord) → GoodRest count live (dropped ++ (name, box) ∷ [])) → GoodOne false count name live dropped
  one-dropped count name live dropped before is is-name new rest =
      let here = ((front ++ mailboxes-written live dropped) ++ name_field name ∷ []) ++ bool_field false ∷ [] in
      good_bind (IsReadMailbox clients 0 (MOST_WEIGHT - weight_under live) (MOST_CHANGES - (changes_under live + changes_under dropped)) here) Q (mailbox_format clients 0 (MOST_WEIGHT - weight_under live) (MOST_CHANGES - (changes_under live + changes_under dropped))) (λ box. mailboxes_from clients count live (dropped ++ (name, box) ∷ [])) here
      (good_mailbox clients 0 (MOST_WEIGHT - weight_under live) (MOST_CHANGES - (changes_under live + changes_under dropped)) here births few-clients)
      (λ fields box read.
      let size = length-append dropped ((name, box) ∷ []) in
      subst (Good Q (mailboxes_from clients count live (dropped ++ (name, box) ∷ [])))
      (ap (λ (t : List (List ℕ)). front ++ t) (sym (written-dropped live dropped name box)) ∙ sym (append_assoc front (mailboxes-written live dropped) (mailbox_fields false (name, box))) ∙ sym (mailbox-parts (front ++ mailboxes-written live dropped) (name_field name) (bool_field false) (box_fields box)) ∙ sym read.spelled)
      (rest box (dropped-push clients live dropped here fields name box before is-name new read) (omega (arith, is, size))))

  first-live : (count : ℕ) (name : List ℕ) (live : Table) → AreMailboxes clients live [] → whole ≡ suc count + (length live + 0) → is_name name ≡ true → is_new (keys_of live ++ []) name ≡ true → ((box : MailboxRecord) → GoodRest count (live ++ (name, box) ∷ []) []) → GoodOne true count name live []
  first-live count name live before is is-name new rest =
      let here = ((front ++ mailboxes-written live []) ++ name_field name ∷ []) ++ bool_field true ∷ [] in
      good_bind (IsReadMailbox clients MOST_MESSAGES (MOST_WEIGHT - weight_under live) (MOST_CHANGES - (changes_under live + 0)) here) Q (mailbox_format clients MOST_MESSAGES (MOST_WEIGHT - weight_under live) (MOST_CHANGES - (changes_under live + 0))) (λ box. mailboxes_from clients count (live ++ (name, box) ∷ []) []) here
      (good_mailbox clients MOST_MESSAGES (MOST_WEIGHT - weight_under live) (MOST_CHANGES - (changes_under live + 0)) here births few-clients)
      (λ fields box read.
      let size = length-append live ((name, box) ∷ []) in
      subst (Good Q (mailboxes_from clients count (live ++ (name, box) ∷ []) []))
      (ap (λ (t : List (List ℕ)). front ++ t) (sym (written-live live name box)) ∙ sym (append_assoc front (mailboxes-written live []) (mailbox_fields true (name, box))) ∙ sym (mailbox-parts (front ++ mailboxes-written live []) (name_field name) (bool_field true) (box_fields box)) ∙ sym read.spelled)
      (rest box (live-push clients live here fields name box before is-name new read) (omega (arith, is, size))))

  one-live : (count : ℕ) (name : List ℕ) (live dropped : Table) → AreMailboxes clients live dropped → whole ≡ suc count + (length live + length dropped) → is_name name ≡ true → is_new (keys_of live ++ keys_of dropped) name ≡ true → has_none dropped ≡ true → ((box : MailboxRecord) → GoodRest count (live ++ (name, box) ∷ []) dropped) → GoodOne true count name live dropped
  one-live count name live [] before is is-name new none rest = first-live count name live before is is-name new rest
  one-live count name live (entry ∷ dropped) before is is-name new none rest = absurd (true≢false (sym none))

  one-more : (lives : Bool) (count : ℕ) (name : List ℕ) (live dropped : Table) → AreMailboxes clients live dropped → whole ≡ suc count + (length live + length dropped) → is_name name ≡ true → is_new (keys_of live ++ keys_of dropped) name ≡ true → (not lives || has_none dropped) ≡ true → ((box : MailboxRecord) → GoodRest count (live ++ (name, box) ∷ []) dropped) → ((box : MailboxRecord) → GoodRest count live (dropped ++ (name, box) ∷ [])) → GoodOne lives count name live dropped
  one-more true count name live dropped before is is-name new none rest other = one-live count name live dropped before is is-name new none rest
  one-more false count name live dropped before is is-name new none rest other = one-dropped count name live dropped before is is-name new other

  good-mailboxes : (count : ℕ) (live dropped : Table) → whole ≤ 64 → GoodRest count live dropped
  good-mailboxes zero live dropped few before is = record { spelled = refl; are = before; counted = omega (arith, is) }
  good-mailboxes (suc count) live dropped few before is =
      let sample = new_name (keys_of live ++ keys_of dropped) (let same = length-both live dropped in omega (arith, is, same, few)) in (
        (sample.name, sample.is, sample.new),
        λ name is-name new. (
          (false, refl, refl),
          λ lives fit passed.
              one-more lives count name live dropped before is is-name new passed (λ box. good-mailboxes count (live ++ (name, box) ∷ []) dropped few) (λ box. good-mailboxes count live (dropped ++ (name, box) ∷ []) few),
        ),
      )

pub record IsReadTable (clients : List (List ℕ × ℕ)) (front fields : List (List ℕ)) (mailboxes : Table × Table) : Type 0 where
  pub spelled : fields ≡ front ++ (u16_field (length mailboxes.0 + length mailboxes.1) ∷ (flat_map (mailbox_fields true) mailboxes.0 ++ flat_map (mailbox_fields false) mailboxes.1))
  pub are : AreMailboxes clients mailboxes.0 mailboxes.1
  pub few : length mailboxes.0 + length mailboxes.1 ≤ 64

pub good_mailboxes : (clients : List (List ℕ × ℕ)) (front : List (List ℕ)) → list_all client_fits clients ≡ true → length clients ≤ 16 → Good (IsReadTable clients front) (mailboxes_format clients) front
good_mailboxes clients front births few-clients = (
  (0, refl, refl),
  λ count fit passed.
      let few = (within-parts 0 64 count passed).1 in
      let here = front ++ u16_field count ∷ [] in
      good_weaker (AreReadMailboxes clients count here) (IsReadTable clients front) (mailboxes_from clients count [] []) here
      (subst (Good (AreReadMailboxes clients count here) (mailboxes_from clients count [] [])) (append-nil here) (good-mailboxes clients count here births few-clients count [] [] few empty (omega arith)))
      (λ fields mailboxes read.
      let counted = read.counted in
      record {
        spelled = read.spelled ∙ append_assoc front (u16_field count ∷ []) (flat_map (mailbox_fields true) mailboxes.0 ++ flat_map (mailbox_fields false) mailboxes.1) ∙ ap (λ (n : ℕ). front ++ (u16_field n ∷ (flat_map (mailbox_fields true) mailboxes.0 ++ flat_map (mailbox_fields false) mailboxes.1))) (sym counted);
        are = read.are;
        few = omega (arith, counted, few);
      }),
)
  where
    empty : AreMailboxes clients [] []
    empty = record { distinct = tt; live_are = tt; dropped_are = tt; live_uids = tt; dropped_uids = tt; live_few = tt; light = omega arith; listed = omega arith; live_fit = refl; dropped_fit = refl }
