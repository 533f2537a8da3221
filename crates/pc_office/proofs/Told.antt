-- What is told of the mails that wait, and of a board.
use Rattle.std.proofs.Common.{◌≡◌, ℕ, ◌+◌, ◌<◌, ◌≤◌, Bool, cond, List, [], ◌∷◌, ◌++◌, length, take, drop, get_or, Option, None, Some, is_some, unwrap_or, refl, sym, ◌∙◌, ap, subst, arith, append-nil, length-append}
use Rattle.std.specs.List.{filter, cons_option}
use Rattle.std.specs.Map.{lookup, keys_of}
use Rattle.std.proofs.lemmas.List.{take_all, take_at, take_more, take-append-drop}
use Rattle.pc_message.specs.declared.lists.Mail.{Mail}
use Rattle.pc_tables.specs.Table.{same}
use Rattle.pc_tables.proofs.Table.{is_among-keys}
use Rattle.pc_office_history.specs.declared.kept.Target.{Target}
use Rattle.pc_office_history.specs.declared.kept.KeptMail.{KeptMail}
use Rattle.pc_office_history.specs.Record.{OfficeRecord, mail_for, mails_for}
use Rattle.pc_office_history.specs.Known.{said_by}
use Rattle.pc_office_history.specs.Answers.{board_of}
use Rattle.pc_office_history.proofs.Mails.{mails_for-append}

-- ---- mails

-- of these mails all that are for a user are told, and no more than 64
pub record AreTold (user : List ℕ) (kept : List KeptMail) (mails : List Mail) : Type 0 where
  pub told : mails ≡ mails_for user kept
  pub few : length mails ≤ 64

few-for : (found : Option Mail) → length (cons_option found []) ≤ 1
few-for None = omega arith
few-for (Some mail) = omega arith

-- with one mail more
pub told-more : (user : List ℕ) (kept : List KeptMail) (index : ℕ) (mail : KeptMail) (mails new : List Mail) → index < length kept → get_or kept index mail ≡ mail → AreTold user (take index kept) mails → length mails < 64 → new ≡ mails ++ mails_for user (mail ∷ []) → AreTold user (take (index + 1) kept) new
told-more user kept index mail mails new below is told fewer e = record {
  told =
      e ∙ ap (λ all. all ++ mails_for user (mail ∷ [])) told.told
      ∙ sym (mails_for-append user (take index kept) (mail ∷ []))
      ∙ ap (mails_for user) (ap (λ one. take index kept ++ one ∷ []) (sym is) ∙ sym (take_more kept index mail below));
  few = rw e (omega (arith, length-append mails (mails_for user (mail ∷ [])), few-for (mail_for user mail)));
}

-- all are told where they are few
told-all : (user : List ℕ) (kept : List KeptMail) (mails : List Mail) → AreTold user kept mails → mails ≡ take 64 (mails_for user kept)
told-all user kept mails told = told.told ∙ sym (take_all 64 (mails_for user kept) (subst (λ all. length all ≤ 64) told.told told.few))

-- what comes behind 64 mails isn't told
told-front : (user : List ℕ) (kept more : List KeptMail) (mails : List Mail) → AreTold user kept mails → length mails ≡ 64 → mails ≡ take 64 (mails_for user (kept ++ more))
told-front user kept more mails told full = sym (
    ap (take 64) (mails_for-append user kept more)
    ∙ ap (λ front. take 64 (front ++ mails_for user more)) (sym told.told)
    ∙ take_at mails (mails_for user more) 64 full
    )

-- 64 are told on the way through these mails
pub told-on_the_way : (user : List ℕ) (kept : List KeptMail) (index : ℕ) (mails : List Mail) → AreTold user (take index kept) mails → length mails ≡ 64 → mails ≡ take 64 (mails_for user kept)
told-on_the_way user kept index mails told full = told-front user (take index kept) (drop index kept) mails told full ∙ ap (λ all. take 64 (mails_for user all)) (take-append-drop index kept)

-- the way through these mails is done
pub told-at_the_end : (user : List ℕ) (kept : List KeptMail) (index : ℕ) (mails : List Mail) → AreTold user (take index kept) mails → length kept ≤ index → mails ≡ take 64 (mails_for user kept)
told-at_the_end user kept index mails told done = told-all user (take index kept) mails told ∙ ap (λ all. take 64 (mails_for user all)) (take_all index kept done)

-- ---- addresses

-- the addresses that pass a test are named
pub names-told : (test : List ℕ × Target → Bool) (names : List (List ℕ)) (ahead all : List (List ℕ × Target)) → names ++ keys_of (filter test ahead) ≡ keys_of (filter test all) → ahead ≡ [] → names ≡ keys_of (filter test all)
names-told test names ahead all told none = sym (append-nil names) ∙ ap (λ rest. names ++ keys_of (filter test rest)) (sym none) ∙ told

-- ---- boards

-- what is said of a board is what stands in its table
pub board-said : (r : OfficeRecord) (name : List ℕ) → board_of (said_by r) name ≡ lookup (same name) r.boards
board-said r name = ap (λ b. cond b (Some (unwrap_or (lookup (same name) r.boards) [])) None) (is_among-keys name r.boards) ∙ found (lookup (same name) r.boards)
  where
    found : (o : Option (List (List (List ℕ)))) → cond (is_some o) (Some (unwrap_or o [])) None ≡ o
    found None = refl
    found (Some messages) = refl
