-- The fields of a record, written one after the other.
use Rattle.std.proofs.Common.{◌≡◌, ℕ, suc, ◌<◌, Bool, List, [], ◌∷◌, ◌++◌, length, Result, Ok, Err, OnOk, refl, ap, ◌∙◌, append_assoc, arith}
use Rattle.std.specs.List.{concat}
use Rattle.std.proofs.lemmas.Bool.{ltb-false}
use Rattle.pc_account_history.specs.declared.kept.Listed.{Listed}
use Rattle.pc_account_history.specs.Record.{MailboxRecord, AccountRecord}
use Rattle.pc_account_history.specs.Legal.{AreListsOf, IsMailbox, IsCanonical}
use Rattle.pc_tables.proofs.Lists.{Every-weaker}
use Rattle.pc_fields.specs.FieldBytes.{name_field, bool_field, u32_field, long_list, short_list}
use Rattle.pc_account_spelling.specs.Spelling.{kept_fields, update_list_fields, mailbox_fields}
use Rattle.pc_fields.proofs.Loops.{concat-append}
use Rattle.pc_account_records.specs.Saving.{HaveFewLists}

pub on_ok : {T E : Type 0} (result : Result T E) (P Q : Type 0) → (P → Q) → OnOk result P → OnOk result Q
on_ok (Ok value) P Q f h = f h
on_ok (Err error) P Q f h = h

-- ---- what is written, put together

five : (out n b u : List ℕ) (ms ls : List (List ℕ)) → ((((out ++ n) ++ b) ++ u) ++ concat ms) ++ concat ls ≡ out ++ concat ((n ∷ b ∷ u ∷ ms) ++ ls)
five out n b u ms ls = simp (concat-append, append_assoc)

pub mailbox-written : (out : List ℕ) (live : Bool) (name : List ℕ) (box : MailboxRecord) (named lived counted filled whole : List ℕ)
    → named ≡ out ++ name_field name → lived ≡ named ++ bool_field live → counted ≡ lived ++ u32_field box.highest → filled ≡ counted ++ concat (long_list kept_fields box.messages) → whole ≡ filled ++ concat (short_list update_list_fields box.lists)
    → whole ≡ out ++ concat (mailbox_fields live (name, box))
mailbox-written out live name box named lived counted filled whole e1 e2 e3 e4 e5 =
    let first = ap (λ (t : List ℕ). t ++ bool_field live) e1 in
    let second = ap (λ (t : List ℕ). t ++ u32_field box.highest) (e2 ∙ first) in
    let third = ap (λ (t : List ℕ). t ++ concat (long_list kept_fields box.messages)) (e3 ∙ second) in
    let fourth = ap (λ (t : List ℕ). t ++ concat (short_list update_list_fields box.lists)) (e4 ∙ third) in
    e5 ∙ fourth ∙ five out (name_field name) (bool_field live) (u32_field box.highest) (long_list kept_fields box.messages) (short_list update_list_fields box.lists)

pub all-written : (out p : List ℕ) (ds cs : List (List ℕ)) (n : List ℕ) (ls xs ss : List (List ℕ)) (o1 o2 o3 o4 o5 o6 o7 : List ℕ)
    → o1 ≡ out ++ p → o2 ≡ o1 ++ concat ds → o3 ≡ o2 ++ concat cs → o4 ≡ o3 ++ n → o5 ≡ o4 ++ concat ls → o6 ≡ o5 ++ concat xs → o7 ≡ o6 ++ concat ss
    → o7 ≡ out ++ concat ((((p ∷ ds) ++ cs) ++ ((n ∷ ls) ++ xs)) ++ ss)
all-written out p ds cs n ls xs ss o1 o2 o3 o4 o5 o6 o7 e1 e2 e3 e4 e5 e6 e7 =
    let f2 = ap (λ (t : List ℕ). t ++ concat ds) e1 in
    let f3 = ap (λ (t : List ℕ). t ++ concat cs) (e2 ∙ f2) in
    let f4 = ap (λ (t : List ℕ). t ++ n) (e3 ∙ f3) in
    let f5 = ap (λ (t : List ℕ). t ++ concat ls) (e4 ∙ f4) in
    let f6 = ap (λ (t : List ℕ). t ++ concat xs) (e5 ∙ f5) in
    let f7 = ap (λ (t : List ℕ). t ++ concat ss) (e6 ∙ f6) in
    e7 ∙ f7 ∙ seven
  where
    seven : ((((((out ++ p) ++ concat ds) ++ concat cs) ++ n) ++ concat ls) ++ concat xs) ++ concat ss ≡ out ++ concat ((((p ∷ ds) ++ cs) ++ ((n ∷ ls) ++ xs)) ++ ss)
    seven = simp (concat-append, append_assoc)

-- ---- lists are few

lists-as-clients : (number highest : ℕ) (clients : List (List ℕ × ℕ)) (lists : List (List ℕ × List Listed)) → AreListsOf number highest clients lists → length lists ≡ length clients
lists-as-clients number highest [] [] h = refl
lists-as-clients number highest [] (list ∷ lists) h = absurd h
lists-as-clients number highest (client ∷ clients) [] h = absurd h
lists-as-clients number highest (client ∷ clients) (list ∷ lists) h = ap suc (lists-as-clients number highest clients lists h.2)

module _ (r : AccountRecord) (number : ℕ) (canonical : IsCanonical r number) where
  few-lists : (mailbox : List ℕ × MailboxRecord) → IsMailbox number r.clients mailbox.1 → length mailbox.1.lists < 65536
  few-lists mailbox is =
      let as-many = lists-as-clients number mailbox.1.highest r.clients mailbox.1.lists is.lists in
      let few = ltb-false _ _ canonical.within.0 in
      omega (arith, as-many, few)

  pub few-live : HaveFewLists r.live
  few-live = Every-weaker (λ (mailbox : List ℕ × MailboxRecord). IsMailbox number r.clients mailbox.1) (λ (mailbox : List ℕ × MailboxRecord). length mailbox.1.lists < 65536) few-lists r.live canonical.well_formed.live

  pub few-dropped : HaveFewLists r.dropped
  few-dropped = Every-weaker (λ (mailbox : List ℕ × MailboxRecord). IsMailbox number r.clients mailbox.1 × (mailbox.1.messages ≡ [])) (λ (mailbox : List ℕ × MailboxRecord). length mailbox.1.lists < 65536) (λ mailbox is. few-lists mailbox is.0) r.dropped canonical.well_formed.dropped
