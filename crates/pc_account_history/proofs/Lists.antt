-- Update lists of legal histories.
use Rattle.std.proofs.Common.{◌≡◌, ℕ, ◌<◌, Bool, true, false, cond, ◌||◌, List, [], ◌∷◌, Option, None, Some, is_none, unwrap_or, MatchOption, refl, sym, ◌∙◌, ap, subst, inl, inr, eq-eqb, ne_eqb}
use Rattle.std.specs.List.{AllByRecursion as Every}
use Rattle.std.specs.Map.{lookup}
use Rattle.std.proofs.lemmas.Bool.{cases_eq}
use Rattle.pc_account_history.specs.declared.kept.Listed.{Listed}
use Rattle.pc_tables.specs.Table.{same}
use Rattle.pc_account_history.specs.Record.{mailbox_of, list_of, stamp_at}
use Rattle.pc_account_history.specs.Effect.{begins, forgets}
use Rattle.pc_account_history.specs.Known.{Known, stamps}
use Rattle.pc_account_history.specs.History.{History, start, ◌▸◌, known, next, birth}
use Rattle.pc_account_history.specs.Step.{record_of}
use Rattle.pc_tables.specs.Order.{Ordered}
use Rattle.pc_account_history.specs.Legal.{IsListedBefore, HasOtherUid, IsChange, IsUpdateList, AreListsOf, IsLegal}
use Rattle.pc_account_history.specs.UpdateList.{last_touch, is_taken, IsOn, IsListFor}
use Rattle.pc_tables.proofs.Options.{some-none, some-same}
use Rattle.pc_account_history.proofs.Mailboxes.{IsMailbox-mailbox_of}
use Rattle.pc_account_history.proofs.Histories.{Stands-legal}

-- ---- what is listed is what was touched and not taken since

listed-decided : (stamped begun forgotten taken : Bool) (number touch listed : Option ℕ) → listed ≡ cond taken None touch → cond stamped number (cond (begun || forgotten) None listed) ≡ cond (cond stamped false (cond begun false (forgotten || taken))) None (cond stamped number (cond begun None touch))
listed-decided true begun forgotten taken number touch listed h = refl
listed-decided false true forgotten taken number touch listed h = refl
listed-decided false false true taken number touch listed h = refl
listed-decided false false false taken number touch listed h = h

untaken : (listed : Option ℕ) → listed ≡ cond (is_none listed) None listed
untaken None = refl
untaken (Some stamp) = refl

pub listed-last_touch : (h : History) (client mailbox : List ℕ) (uid : ℕ) → (known h).listed client mailbox uid ≡ cond (is_taken h client mailbox uid) None (last_touch h client mailbox uid)
listed-last_touch (start r number) client mailbox uid = untaken (stamp_at uid (list_of (mailbox_of r mailbox) client))
listed-last_touch (h ▸ e) client mailbox uid = listed-decided (stamps (known h) e client mailbox uid) (begins e client) (forgets e client mailbox uid) (is_taken h client mailbox uid) (Some (next h)) (last_touch h client mailbox uid) ((known h).listed client mailbox uid) (listed-last_touch h client mailbox uid)

-- ---- members of a list of different uids

pub Every-on : (P : Listed → Type 0) (listed : Listed) (list : List Listed) → Every P list → IsOn listed list → P listed
Every-on P listed [] h on = absurd on
Every-on P listed (first ∷ list) h (inl e) = subst P e h.0
Every-on P listed (first ∷ list) h (inr on) = Every-on P listed list h.1 on

IsOn-stamp_at : (listed : Listed) (list : List Listed) → Ordered HasOtherUid list → IsOn listed list → stamp_at listed.uid list ≡ Some listed.stamp
IsOn-stamp_at listed [] d on = absurd on
IsOn-stamp_at listed (first ∷ list) d (inl e) = rw (eq-eqb first.uid listed.uid (ap (λ (l : Listed). l.uid) e)) (ap (λ (l : Listed). Some l.stamp) e)
IsOn-stamp_at listed (first ∷ list) d (inr on) = rw (Every-on (HasOtherUid first) listed list d.0 on) (IsOn-stamp_at listed list d.1 on)

pub stamp_at-IsOn : (uid stamp : ℕ) (list : List Listed) → stamp_at uid list ≡ Some stamp → IsOn (record { uid = uid; stamp = stamp }) list
stamp_at-IsOn uid stamp [] h = absurd (some-none stamp (sym h))
stamp_at-IsOn uid stamp (first ∷ list) h =
    elim (cases_eq first.uid uid) [
      | inl here ↦
          let s = some-same first.stamp stamp (rw (eq-eqb first.uid uid here) at h) in
          inl (λ i. record { uid = here i; stamp = s i })
      | inr other ↦ inr (stamp_at-IsOn uid stamp list (rw (ne_eqb first.uid uid other) at h))
    ]

-- ---- the lists of a well-formed record

AreListsOf-found : (number highest : ℕ) (clients : List (List ℕ × ℕ)) (lists : List (List ℕ × List Listed)) (client : List ℕ) → AreListsOf number highest clients lists → Every (λ (one : List ℕ × ℕ). (0 < one.1) × (one.1 < number)) clients → MatchOption (lookup (same client) clients) (unwrap_or (lookup (same client) lists) [] ≡ []) (λ born. (0 < born) × (born < number) × IsUpdateList number highest born (unwrap_or (lookup (same client) lists) []))
AreListsOf-found number highest [] [] client h born = refl
AreListsOf-found number highest [] (list ∷ lists) client h born = absurd h
AreListsOf-found number highest (one ∷ clients) [] client h born = absurd h
AreListsOf-found number highest (one ∷ clients) (list ∷ lists) client h born =
    let e : same client list.0 ≡ same client one.0 = ap (same client) h.0 in
    subst (λ b. MatchOption (cond (same client one.0) (Some one.1) (lookup (same client) clients)) (unwrap_or (cond b (Some list.1) (lookup (same client) lists)) [] ≡ []) (λ birth. (0 < birth) × (birth < number) × IsUpdateList number highest birth (unwrap_or (cond b (Some list.1) (lookup (same client) lists)) []))) (sym e)
    (elim (same client one.0) as (λ b. MatchOption (cond b (Some one.1) (lookup (same client) clients)) (unwrap_or (cond b (Some list.1) (lookup (same client) lists)) [] ≡ []) (λ birth. (0 < birth) × (birth < number) × IsUpdateList number highest birth (unwrap_or (cond b (Some list.1) (lookup (same client) lists)) []))) [
      | true ↦ (born.0.0, born.0.1, h.1)
      | false ↦ AreListsOf-found number highest clients lists client h.2 born.1
    ])

-- the list of a client, or none where it isn't one
ListIs : Known → List ℕ → List ℕ → Type 0
ListIs k client mailbox = MatchOption (lookup (same client) k.clients) (k.changes client mailbox ≡ []) (λ born. (0 < born) × (born < k.next) × IsUpdateList k.next (k.highest mailbox) born (k.changes client mailbox))

pub list-is : (h : History) → IsLegal h → (client mailbox : List ℕ) → MatchOption (birth h client) ((known h).changes client mailbox ≡ []) (λ born. (0 < born) × (born < next h) × IsUpdateList (next h) ((known h).highest mailbox) born ((known h).changes client mailbox))
unfolding ListIs
list-is h legal client mailbox =
    let stands = Stands-legal h legal in
    let box = mailbox_of (record_of h) mailbox in
    subst (λ k. ListIs k client mailbox) (sym stands.alike) (AreListsOf-found (next h) box.highest (record_of h).clients box.lists client (IsMailbox-mailbox_of (record_of h) (next h) mailbox stands.formed).lists stands.formed.births)

-- what is needed of a list, whether there is one or not
OrderedDistinct : List Listed → Type 0
OrderedDistinct list = Ordered IsListedBefore list × Ordered HasOtherUid list

any-list : (number highest : ℕ) (birth : Option ℕ) (list : List Listed) → MatchOption birth (list ≡ []) (λ born. (0 < born) × (born < number) × IsUpdateList number highest born list) → OrderedDistinct list
unfolding OrderedDistinct
any-list number highest None list h = subst (λ l. Ordered IsListedBefore l × Ordered HasOtherUid l) (sym h) (tt, tt)
any-list number highest (Some born) list h = (h.2.in_order, h.2.distinct)

pub listed-stamp_at : (h : History) → IsLegal h → (client mailbox : List ℕ) (uid : ℕ) → stamp_at uid ((known h).changes client mailbox) ≡ (known h).listed client mailbox uid
listed-stamp_at h legal client mailbox uid = subst (λ (k : Known). stamp_at uid (k.changes client mailbox) ≡ k.listed client mailbox uid) (sym (Stands-legal h legal).alike) refl

untaken-touch : (taken : Bool) (touch : Option ℕ) (stamp : ℕ) → cond taken None touch ≡ Some stamp → (touch ≡ Some stamp) × (taken ≡ false)
untaken-touch true touch stamp h = absurd (some-none stamp (sym h))
untaken-touch false touch stamp h = (h, refl)

pub list-for : (h : History) → IsLegal h → (client mailbox : List ℕ) → IsListFor h client mailbox ((known h).changes client mailbox)
unfolding OrderedDistinct
list-for h legal client mailbox =
    let list = (known h).changes client mailbox in
    let good = any-list (next h) ((known h).highest mailbox) (birth h client) list (list-is h legal client mailbox) in
    record {
      in_order = good.0;
      distinct = good.1;
      members = λ listed. (
        λ on. untaken-touch (is_taken h client mailbox listed.uid) (last_touch h client mailbox listed.uid) listed.stamp (sym (listed-last_touch h client mailbox listed.uid) ∙ sym (listed-stamp_at h legal client mailbox listed.uid) ∙ IsOn-stamp_at listed list good.1 on),
        λ fact. stamp_at-IsOn listed.uid listed.stamp list (listed-stamp_at h legal client mailbox listed.uid ∙ listed-last_touch h client mailbox listed.uid ∙ (λ i. cond (fact.1 i) None (fact.0 i))),
      );
    }

-- ---- stamps

all-before : (number highest born : ℕ) (list : List Listed) → Every (IsChange number highest born) list → Every (λ (listed : Listed). listed.stamp < number) list
all-before number highest born [] h = tt
all-before number highest born (listed ∷ list) h = (h.0.so_far, all-before number highest born list h.1)

stamps-of : (number highest : ℕ) (birth : Option ℕ) (list : List Listed) → MatchOption birth (list ≡ []) (λ born. (0 < born) × (born < number) × IsUpdateList number highest born list) → Every (λ (listed : Listed). listed.stamp < number) list
stamps-of number highest None list h = subst (Every (λ (listed : Listed). listed.stamp < number)) (sym h) tt
stamps-of number highest (Some born) list h = all-before number highest born list h.2.changes

pub stamps-before : (h : History) → IsLegal h → (client mailbox : List ℕ) → Every (λ (listed : Listed). listed.stamp < next h) ((known h).changes client mailbox)
stamps-before h legal client mailbox = stamps-of (next h) ((known h).highest mailbox) (birth h client) ((known h).changes client mailbox) (list-is h legal client mailbox)
