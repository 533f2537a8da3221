-- Clients and subscriptions as they are read.
use Rattle.std.proofs.Common.{◌≡◌, ℕ, zero, suc, ◌+◌, ◌-◌, ◌<◌, ◌≤◌, nat_lt, nat_le, true, List, [], ◌∷◌, ◌++◌, length, refl, sym, ap, subst, ◌∙◌, append_assoc, arith, length-append}
use Rattle.std.specs.List.{list_all, flat_map, AllByRecursion as Every}
use Rattle.std.specs.Map.{keys_of}
use Rattle.std.proofs.lemmas.Bool.{leb-true, lt-ltb, le-leb, and_parts, and_from}
use Rattle.pc_base.specs.Name.{is_name}
use Rattle.pc_tables.specs.Table.{same}
use Rattle.pc_tables.specs.Order.{Ordered, AreDistinct}
use Rattle.pc_tables.proofs.Lists.{Every-weaker, Every-append, all-push}
use Rattle.pc_tables.proofs.Order.{Ordered-push}
use Rattle.pc_fields.specs.FieldBytes.{short_list, name_field, u16_field, u32_field, u64_field}
use Rattle.pc_account_spelling.specs.Spelling.{client_fields, subscription_fields}
use Rattle.pc_fields.specs.Fields.{is_new}
use Rattle.pc_account_spelling.specs.RecordForm.{client_fits, subscription_fits}
use Rattle.pc_account_spelling.specs.RecordFormat.{last_number, clients_from, clients_format, subscriptions_from, subscriptions_format}
use Rattle.pc_fields.proofs.Good.{Good}
use Rattle.pc_fields.proofs.NewNames.{new_name}
use Rattle.pc_tables.proofs.Distinct.{distinct-push}
use Rattle.pc_tables.proofs.Table.{keys-push, length-keys}
use Rattle.pc_fields.proofs.Pushes.{fields-push, within-parts, is-within}

-- ---- clients

-- clients that were read, the last one born with this number
pub record AreClientsTo (low : ℕ) (clients : List (List ℕ × ℕ)) : Type 0 where
  pub rise : Ordered (λ (client later : List ℕ × ℕ). client.1 < later.1) clients
  pub upto : Every (λ (client : List ℕ × ℕ). (0 < client.1) × (client.1 ≤ low)) clients
  pub last : low ≤ last_number
  pub distinct : AreDistinct (keys_of clients)
  pub fit : list_all client_fits clients ≡ true

clients-push : (low : ℕ) (clients : List (List ℕ × ℕ)) (name : List ℕ) (birth : ℕ) → AreClientsTo low clients → is_name name ≡ true → is_new (keys_of clients) name ≡ true → low < birth → birth ≤ last_number → AreClientsTo birth (clients ++ (name, birth) ∷ [])
clients-push low clients name birth before is new behind last = record {
  rise = Ordered-push (λ (client later : List ℕ × ℕ). client.1 < later.1) clients (name, birth) before.rise (Every-weaker (λ (client : List ℕ × ℕ). (0 < client.1) × (client.1 ≤ low)) (λ (client : List ℕ × ℕ). client.1 < birth) (λ client h. omega (arith, h.1, behind)) clients before.upto);
  upto = Every-append (λ (client : List ℕ × ℕ). (0 < client.1) × (client.1 ≤ birth)) clients ((name, birth) ∷ []) (Every-weaker (λ (client : List ℕ × ℕ). (0 < client.1) × (client.1 ≤ low)) (λ (client : List ℕ × ℕ). (0 < client.1) × (client.1 ≤ birth)) (λ client h. (h.0, omega (arith, h.1, behind))) clients before.upto) ((omega (arith, behind), omega arith), tt);
  last = last;
  distinct = subst AreDistinct (sym (keys-push clients name birth)) (distinct-push (keys_of clients) name before.distinct new);
  fit = all-push client_fits clients (name, birth) before.fit (and_from (is_name name) (nat_lt birth 9223372036854775808) is (lt-ltb birth 9223372036854775808 (omega (arith, last))));
}

-- so many clients were read
pub record AreReadClients (front fields : List (List ℕ)) (clients : List (List ℕ × ℕ)) : Type 0 where
  pub spelled : fields ≡ front ++ short_list client_fields clients
  pub low : ℕ
  pub are : AreClientsTo low clients
  pub few : length clients ≤ 16

two-fields : (front : List (List ℕ)) (x y : List ℕ) (total : List (List ℕ)) → front ++ (x ∷ y ∷ []) ≡ total → total ≡ (front ++ x ∷ []) ++ y ∷ []
two-fields front x y total e = sym e ∙ sym (append_assoc front (x ∷ []) (y ∷ []))

module _ (front : List (List ℕ)) (total : ℕ) (few : total ≤ 16) where
  abbrev counted : List (List ℕ)
  counted = front ++ u16_field total ∷ []

  good-clients : (count low : ℕ) (clients : List (List ℕ × ℕ)) → AreClientsTo low clients → total ≡ count + length clients → low + count ≤ last_number
      → Good (AreReadClients front) (clients_from count low clients) (counted ++ flat_map client_fields clients)
  good-clients zero low clients before is room =
      record {
        spelled = append_assoc front (u16_field total ∷ []) (flat_map client_fields clients) ∙ ap (λ (n : ℕ). front ++ (u16_field n ∷ flat_map client_fields clients)) (let same : total ≡ length clients = omega (arith, is) in same);
        low = low;
        are = before;
        few = omega (arith, is);
      }
  good-clients (suc count) low clients before is room =
      let sample = new_name (keys_of clients) (let same = length-keys clients in omega (arith, is, same)) in (
        (sample.name, sample.is, sample.new),
        λ name is-name new. (
          (suc low, lt-ltb (suc low) 18446744073709551616 (omega (arith, room)), is-within (suc low) (last_number - count) (suc low) (omega arith) (omega (arith, room))),
          λ birth fit passed.
              let range = within-parts (suc low) (last_number - count) birth passed in
              let size = length-append clients ((name, birth) ∷ []) in
              subst (Good (AreReadClients front) (clients_from count birth (clients ++ (name, birth) ∷ [])))
              (two-fields (counted ++ flat_map client_fields clients) (name_field name) (u64_field birth) (counted ++ flat_map client_fields (clients ++ (name, birth) ∷ [])) (fields-push client_fields counted clients (name, birth)))
              (good-clients count birth (clients ++ (name, birth) ∷ []) (clients-push low clients name birth before is-name new (omega (arith, range.0)) (omega (arith, range.1))) (omega (arith, is, size)) (omega (arith, range.1, room))),
        ),
      )

pub good_clients : (front : List (List ℕ)) → Good (AreReadClients front) clients_format front
good_clients front = (
  (0, refl, refl),
  λ count fit passed.
      let range = within-parts 0 16 count passed in
      subst (Good (AreReadClients front) (clients_from count 0 [])) (append-none (front ++ u16_field count ∷ []))
      (good-clients front count range.1 count 0 [] (record { rise = tt; upto = tt; last = omega arith; distinct = tt; fit = refl }) (omega arith) (omega (arith, range.1))),
)
  where
    append-none : (xs : List (List ℕ)) → xs ++ [] ≡ xs
    append-none [] = refl
    append-none (x ∷ xs) = ap (λ (t : List (List ℕ)). x ∷ t) (append-none xs)

-- ---- subscriptions

pub record AreReadSubscriptions (front fields : List (List ℕ)) (subscriptions : List (List ℕ × ℕ)) : Type 0 where
  pub spelled : fields ≡ front ++ short_list subscription_fields subscriptions
  pub distinct : AreDistinct (keys_of subscriptions)
  pub fit : list_all subscription_fits subscriptions ≡ true
  pub few : length subscriptions ≤ 64

module _ (front : List (List ℕ)) (total : ℕ) (few : total ≤ 64) where
  abbrev counted-there : List (List ℕ)
  counted-there = front ++ u16_field total ∷ []

  good-subscriptions : (count : ℕ) (before : List (List ℕ × ℕ)) → AreDistinct (keys_of before) → list_all subscription_fits before ≡ true → total ≡ count + length before
      → Good (AreReadSubscriptions front) (subscriptions_from count before) (counted-there ++ flat_map subscription_fields before)
  good-subscriptions zero before distinct fit is =
      record {
        spelled = append_assoc front (u16_field total ∷ []) (flat_map subscription_fields before) ∙ ap (λ (n : ℕ). front ++ (u16_field n ∷ flat_map subscription_fields before)) (let same : total ≡ length before = omega (arith, is) in same);
        distinct = distinct;
        fit = fit;
        few = omega (arith, is);
      }
  good-subscriptions (suc count) before distinct fit is =
      let sample = new_name (keys_of before) (let same = length-keys before in omega (arith, is, same)) in (
        (sample.name, sample.is, sample.new),
        λ board is-name new. (
          (0, refl, refl),
          λ mark mark-fit passed.
              let size = length-append before ((board, mark) ∷ []) in
              subst (Good (AreReadSubscriptions front) (subscriptions_from count (before ++ (board, mark) ∷ [])))
              (two-fields (counted-there ++ flat_map subscription_fields before) (name_field board) (u32_field mark) (counted-there ++ flat_map subscription_fields (before ++ (board, mark) ∷ [])) (fields-push subscription_fields counted-there before (board, mark)))
              (good-subscriptions count (before ++ (board, mark) ∷ [])
              (subst AreDistinct (sym (keys-push before board mark)) (distinct-push (keys_of before) board distinct new))
              (all-push subscription_fits before (board, mark) fit (and_from (is_name board) (nat_lt mark 4294967296) is-name mark-fit))
              (omega (arith, is, size))),
        ),
      )

pub good_subscriptions : (front : List (List ℕ)) → Good (AreReadSubscriptions front) subscriptions_format front
good_subscriptions front = (
  (0, refl, refl),
  λ count fit passed.
      let range = within-parts 0 64 count passed in
      subst (Good (AreReadSubscriptions front) (subscriptions_from count [])) (append-none (front ++ u16_field count ∷ []))
      (good-subscriptions front count range.1 count [] tt refl (omega arith)),
)
  where
    append-none : (xs : List (List ℕ)) → xs ++ [] ≡ xs
    append-none [] = refl
    append-none (x ∷ xs) = ap (λ (t : List (List ℕ)). x ∷ t) (append-none xs)
