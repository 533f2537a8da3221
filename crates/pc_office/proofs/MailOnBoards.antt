-- Whether boards would be full once a mail is accepted, by what is counted.
use Rattle.std.proofs.Common.{◌≡◌, ℕ, ◌+◌, ◌*◌, Bool, true, false, cond, ◌&&◌, ◌||◌, nat_lt, nat_le, List, [], ◌∷◌, ◌++◌, length, filter, Option, None, Some, is_some, unwrap_or, refl, sym, ◌∙◌, ap, arith, true≢false, lt-ltb, le-leb, append-nil, length-append}
use Rattle.std.specs.List.{list_any}
use Rattle.std.specs.Map.{lookup, keys_of}
use Rattle.std.specs.Option.{option_map_or}
use Rattle.std.proofs.lemmas.Bool.{or_parts, ltb-true, leb-true}
use Rattle.pc_base.specs.declared.refusal.LimitWord.TheVariants as limit
use Rattle.pc_message.specs.Message.{weight_of}
use Rattle.pc_tables.specs.Table.{same, is_among}
use Rattle.pc_tables.proofs.Table.{same-refl, same-true, is_among-keys}
use Rattle.pc_tables.proofs.Order.{Ordered-back}
use Rattle.pc_office_history.specs.declared.limits.TheConstants.{MOST_BOARD_MESSAGES, MOST_BOARD_WEIGHT}
use Rattle.pc_office_history.specs.declared.entry.OfficeEntry.TheVariants.{Accept}
use Rattle.pc_office_history.specs.Known.{Known, said_by, after_entry}
use Rattle.pc_office_history.specs.Limits.{board_weight, would_pass}
use Rattle.pc_office_history.specs.Allowed.{are_apart}
use Rattle.pc_office_history.proofs.Names.{read-off, weight-added}
use Rattle.pc_office_holdings.specs.Held.{Held, record_in, weight_on_all}
use Rattle.pc_office.specs.Limits.{is_filled, board_count, are_full}
use Rattle.pc_office_holdings.specs.State.{IsSound}
use Rattle.pc_tables.proofs.Totals.{total-alike}
use Rattle.pc_office.proofs.NamesCounted.{shared}
use Rattle.pc_office.proofs.MailWaits.{none-among}

-- ---- a test over two lists of names

both-ways : (a b : Bool) → (a ≡ true → b ≡ true) → (b ≡ true → a ≡ true) → a ≡ b
both-ways true true f g = refl
both-ways true false f g = sym (f refl)
both-ways false true f g = g refl
both-ways false false f g = refl

any-among : (p : List ℕ → Bool) (name : List ℕ) (names : List (List ℕ)) → is_among name names ≡ true → p name ≡ true → list_any p names ≡ true
any-among p name [] h g = absurd (true≢false (sym h))
any-among p name (other ∷ names) h g = elim (same name other) as (λ b. same name other ≡ b → (b || is_among name names) ≡ true → (p other || list_any p names) ≡ true) [
  | true ↦ λ e f. ap (λ n. p n || list_any p names) (sym (same-true name other e)) ∙ ap (λ b. b || list_any p names) g
  | false ↦ λ e f. elim (p other) as (λ b. (b || list_any p names) ≡ true) [ true ↦ refl | false ↦ any-among p name names f g ]
] refl h

-- each name at which the first test passes is among the others, and the second passes there
Goes : (p q : List ℕ → Bool) (names others : List (List ℕ)) → Type 0
Goes p q names others = (name : List ℕ) → is_among name names ≡ true → p name ≡ true → (is_among name others ≡ true) × (q name ≡ true)

any-goes : (p q : List ℕ → Bool) (names others : List (List ℕ)) → Goes p q names others → list_any p names ≡ true → list_any q others ≡ true
unfolding Goes
any-goes p q [] others f h = absurd (true≢false (sym h))
any-goes p q (name ∷ names) others f h = elim (p name) as (λ b. p name ≡ b → (b || list_any p names) ≡ true → list_any q others ≡ true) [
  | true ↦ λ e g. let there = f name (ap (λ b. b || is_among name names) (same-refl name)) e in any-among q name others there.0 there.1
  | false ↦ λ e g. any-goes p q names others (λ other i t. f other (elim (same other name) as (λ b. (b || is_among other names) ≡ true) [ true ↦ refl | false ↦ i ]) t) g
] refl h

-- ---- one board

module _ (message : List (List ℕ)) where
  abbrev after : Bool → Option (List (List (List ℕ))) → Bool
  after named found = nat_lt MOST_BOARD_MESSAGES (length (unwrap_or found [] ++ cond (named && is_some found) (message ∷ []) []))

  abbrev filled : Option (List (List (List ℕ))) → Bool
  filled found = option_map_or (λ messages. nat_le MOST_BOARD_MESSAGES (length messages)) found false

  -- a board gets too many messages only where it is named and has no place
  filled-before : (named : Bool) (found : Option (List (List (List ℕ)))) → nat_lt MOST_BOARD_MESSAGES (length (unwrap_or found [])) ≡ false → after named found ≡ true → (named ≡ true) × (filled found ≡ true)
  filled-before true None few h = absurd (true≢false (sym h))
  filled-before false None few h = absurd (true≢false (sym h))
  filled-before false (Some messages) few h = absurd (true≢false (sym h ∙ ap (λ (ms : List (List (List ℕ))). nat_lt MOST_BOARD_MESSAGES (length ms)) (append-nil messages) ∙ few))
  filled-before true (Some messages) few h = (refl, le-leb MOST_BOARD_MESSAGES (length messages) (omega (arith, ltb-true MOST_BOARD_MESSAGES (length (messages ++ message ∷ [])) h, length-append messages (message ∷ []))))

  -- a board without a place gets too many messages
  passed-after : (found : Option (List (List (List ℕ)))) → filled found ≡ true → (is_some found ≡ true) × (after true found ≡ true)
  passed-after None h = absurd (true≢false (sym h))
  passed-after (Some messages) h = (refl, lt-ltb MOST_BOARD_MESSAGES (length (messages ++ message ∷ [])) (omega (arith, leb-true MOST_BOARD_MESSAGES (length messages) h, length-append messages (message ∷ []))))

-- ---- all together

module _ (held : Held) (sound : IsSound held) (names message : List (List ℕ)) where
  abbrev k : Known
  k = said_by (record_in held)

  abbrev passed : List ℕ → Bool
  passed board = nat_lt MOST_BOARD_MESSAGES (length ((after_entry k (Accept names message)).messages board))

  abbrev found : List ℕ → Option (List (List (List ℕ)))
  found board = lookup (same board) held.boards

  passed-found : (board : List ℕ) → passed board ≡ after message (is_among board names) (found board)
  passed-found board = ap (λ b. nat_lt MOST_BOARD_MESSAGES (length (k.messages board ++ cond (is_among board names && b) (message ∷ []) []))) (is_among-keys board held.boards)

  places : list_any passed k.boards ≡ list_any (is_filled held) names
  unfolding Goes
  places = both-ways (list_any passed k.boards) (list_any (is_filled held) names)
      (any-goes passed (is_filled held) k.boards names (λ board is_board h. filled-before message (is_among board names) (found board) (none-before board is_board) (sym (passed-found board) ∙ h)))
      (any-goes (is_filled held) passed names k.boards (λ board named h. let there = passed-after message (found board) h in (is_among-keys board held.boards ∙ there.0, passed-found board ∙ ap (λ b. after message b (found board)) named ∙ there.1)))
    where
      none-before : (board : List ℕ) → is_among board k.boards ≡ true → nat_lt MOST_BOARD_MESSAGES (length (k.messages board)) ≡ false
      none-before board is_board = none-among (λ name. nat_lt MOST_BOARD_MESSAGES (length (k.messages name))) board k.boards (or_parts (list_any (λ name. nat_lt MOST_BOARD_MESSAGES (length (k.messages name))) k.boards) (nat_lt MOST_BOARD_WEIGHT (board_weight k)) sound.canonical.within.1.1.1.1.0).0 is_board

  weights : are_apart names ≡ true → board_weight (after_entry k (Accept names message)) ≡ weight_on_all held.boards + board_count held names * weight_of message
  weights apart =
      let formed = sound.canonical.well_formed in
      let distinct = Ordered-back (λ (a b : List ℕ). same a b ≡ false) (keys_of (record_in held).users) k.boards formed.user_names in
      let count : length (filter (λ board. is_among board names) k.boards) ≡ board_count held names = shared k.boards names distinct apart ∙ (λ i. length (filter (λ name. is_among-keys name held.boards i) names)) in
      weight-added k names message
      ∙ (λ i. (read-off (record_in held) formed).weight i + total-alike (weight_of message) (filter (λ board. is_among board names) k.boards) i)
      ∙ ap (λ n. weight_on_all held.boards + n * weight_of message) count

  -- boards would be full just where they have no place or no room for what is named
  pub boards-full : are_apart names ≡ true → would_pass k (Accept names message) limit.Board ≡ are_full (weight_of message) held names
  boards-full apart = λ i. places i || nat_lt MOST_BOARD_WEIGHT (weights apart i)
