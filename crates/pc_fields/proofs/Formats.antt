-- Reading by a format: what was read, where it stops, and that both are one.
use Rattle.std.proofs.Common.{◌≡◌, ℕ, zero, suc, Bool, List, [], ◌∷◌, ◌++◌, length, IsTrue, Result, Ok, Err, refl, sym, ap, subst, ◌∙◌, append_assoc, arith, inl, inr}
use Rattle.std.specs.List.{concat}
use Rattle.std.specs.Result.{IsErr, IsErrAnd}
use Rattle.std.proofs.lemmas.List.{append-nil, append_cancel_left, length-append, nil_from_length}
use Rattle.pc_fields.specs.Fault.{GoesOn, IsFirstFault}
use Rattle.pc_fields.specs.Fields.{Kind, Held, fits, field_of, Takes, FieldOutcome, FieldReads}
use Rattle.pc_fields.specs.Format.{Format, ends, goes, bind, repeated, Took, Stuck, Outcome, Reads, ReadsAs, IsOpen}
use Rattle.pc_fields.specs.declared.cursor.Halt.{Halt}
use Rattle.pc_fields.specs.declared.cursor.Halt.TheVariants.{NoField, Memory}
use Rattle.pc_fields.proofs.Values.{same_value}
use Rattle.pc_fields.proofs.Loops.{concat-append}

-- nothing more is read
pub nothing_more : {X : Type 0} {old : List ℕ} {value : X} → Reads (ends value) old old (Ok value)
nothing_more = record { told = (refl, refl) }

-- one field was read, and then the rest
after_field_told : {X : Type 0} (kind : Kind) (test : Held kind → Bool) (format : Held kind → Format X) (old mid new : List ℕ) (value : Held kind) (result : Result X Halt)
    → Takes kind test old value mid → Outcome (format value) mid new result → Outcome (goes kind test format) old new result
after_field_told kind test format old mid new value (Ok x) takes rest = (value, mid, takes, rest)
after_field_told kind test format old mid new value (Err NoField) takes rest = inr (value, mid, takes, rest)
after_field_told kind test format old mid new value (Err Memory) takes rest = tt

pub after_field : {X : Type 0} {kind : Kind} {test : Held kind → Bool} {format : Held kind → Format X} {old mid new : List ℕ} {value : Held kind} {result : Result X Halt}
    → FieldReads kind test old mid (Ok value) → Reads (format value) mid new result → Reads (goes kind test format) old new result
after_field {X} {kind} {test} {format} {old} {mid} {new} {value} {result} takes rest = record { told = after_field_told kind test format old mid new value result takes.told rest.told }

-- no field was read
no_field_told : {X : Type 0} (kind : Kind) (test : Held kind → Bool) (format : Held kind → Format X) (old new : List ℕ) (halt : Halt) (result : Result X Halt)
    → FieldOutcome kind test old new (Err halt) → IsErr result → IsErrAnd result (λ made. made ≡ halt) → Outcome (goes kind test format) old new result
no_field_told kind test format old new halt (Ok x) none is same = absurd cc
no_field_told kind test format old new halt (Err NoField) none is same = inl (subst (λ h. FieldOutcome kind test old new (Err h)) (sym same) none)
no_field_told kind test format old new halt (Err Memory) none is same = tt

pub no_field : {X : Type 0} {kind : Kind} {test : Held kind → Bool} {format : Held kind → Format X} {old new : List ℕ} {halt : Halt} {result : Result X Halt}
    → FieldReads kind test old new (Err halt) → IsErr result × IsErrAnd result (λ made. made ≡ halt) → Reads (goes kind test format) old new result
no_field {X} {kind} {test} {format} {old} {new} {halt} {result} none same = record { told = no_field_told kind test format old new halt result none.told same.0 same.1 }

pub stuck_part : {X Y : Type 0} (format : Format X) (next : X → Format Y) (old new : List ℕ) → Stuck format old new → Stuck (bind format next) old new
stuck_part (ends value) next old new stuck = absurd stuck
stuck_part (goes kind test format) next old new (inl none) = inl none
stuck_part (goes kind test format) next old new (inr s) = inr (s.0, s.1, s.2, stuck_part (format s.0) next s.1 new s.3)

pub took_part : {X Y : Type 0} (format : Format X) (next : X → Format Y) (old mid new : List ℕ) (x : X) (y : Y) → Took format old x mid → Took (next x) mid y new → Took (bind format next) old y new
took_part (ends value) next old mid new x y took then = subst (λ (b : List ℕ). Took (next value) b y new) took.1 (subst (λ v. Took (next v) mid y new) took.0 then)
took_part (goes kind test format) next old mid new x y took then = (took.0, took.1, took.2, took_part (format took.0) next took.1 mid new x y took.3 then)

pub stuck_after : {X Y : Type 0} (format : Format X) (next : X → Format Y) (old mid new : List ℕ) (x : X) → Took format old x mid → Stuck (next x) mid new → Stuck (bind format next) old new
stuck_after (ends value) next old mid new x took then = subst (λ (b : List ℕ). Stuck (next value) b new) took.1 (subst (λ v. Stuck (next v) mid new) took.0 then)
stuck_after (goes kind test format) next old mid new x took then = inr (took.0, took.1, took.2, stuck_after (format took.0) next took.1 mid new x took.3 then)

-- one thing was read, and then the rest
after_part_told : {X Y : Type 0} (format : Format X) (next : X → Format Y) (old mid new : List ℕ) (x : X) (result : Result Y Halt)
    → Took format old x mid → Outcome (next x) mid new result → Outcome (bind format next) old new result
after_part_told format next old mid new x (Ok y) took rest = took_part format next old mid new x y took rest
after_part_told format next old mid new x (Err NoField) took rest = stuck_after format next old mid new x took rest
after_part_told format next old mid new x (Err Memory) took rest = tt

pub after_part : {X Y : Type 0} {format : Format X} (next : X → Format Y) {old mid new : List ℕ} {x : X} {result : Result Y Halt}
    → Reads format old mid (Ok x) → Reads (next x) mid new result → Reads (bind format next) old new result
after_part {X} {Y} {format} next {old} {mid} {new} {x} {result} took rest = record { told = after_part_told format next old mid new x result took.told rest.told }

-- it wasn't read
no_part_told : {X Y : Type 0} (format : Format X) (next : X → Format Y) (old new : List ℕ) (halt : Halt) (result : Result Y Halt)
    → Outcome format old new (Err halt) → IsErr result → IsErrAnd result (λ made. made ≡ halt) → Outcome (bind format next) old new result
no_part_told format next old new halt (Ok y) none is same = absurd cc
no_part_told format next old new halt (Err NoField) none is same = stuck_part format next old new (subst (λ h. Outcome format old new (Err h)) (sym same) none)
no_part_told format next old new halt (Err Memory) none is same = tt

pub no_part : {X Y : Type 0} {format : Format X} (next : X → Format Y) {old new : List ℕ} {halt : Halt} {result : Result Y Halt}
    → Reads format old new (Err halt) → IsErr result × IsErrAnd result (λ made. made ≡ halt) → Reads (bind format next) old new result
no_part {X} {Y} {format} next {old} {new} {halt} {result} none same = record { told = no_part_told format next old new halt result none.told same.0 same.1 }

-- fields that are read as some value
abbrev pub Whole : {X : Type 0} → Format X → List (List ℕ) → Type 0
Whole {X} format fields = (result : X) × ReadsAs format fields result

pub open_whole : {X : Type 0} (format : Format X) → IsOpen format → (fields : List (List ℕ)) × Whole format fields
open_whole (ends value) is = ([], (value, (refl, refl)))
open_whole (goes kind test format) is =
    let rest = open_whole (format is.0) (is.3 is.0 is.1 is.2) in
    (field_of kind is.0 ∷ rest.0, (rest.1.0, (is.0, rest.0, is.1, is.2, refl, rest.1.1)))

pub open_bind : {X Y : Type 0} (format : Format X) (next : X → Format Y) → IsOpen format → ((x : X) → IsOpen (next x)) → IsOpen (bind format next)
open_bind (ends value) next is then = then value
open_bind (goes kind test format) next is then = (is.0, is.1, is.2, λ value fit passed. open_bind (format value) next (is.3 value fit passed) then)

pub open_repeated : {X : Type 0} (count : ℕ) (format : Format X) → IsOpen format → IsOpen (repeated count format)
open_repeated zero format is = tt
open_repeated (suc count) format is = open_bind format _ is (λ x. open_bind (repeated count format) _ (open_repeated count format is) (λ xs. tt))

-- what was read, as fields
pub record Read {X : Type 0} (format : Format X) (old : List ℕ) (x : X) (new : List ℕ) : Type 0 where
  pub fields : List (List ℕ)
  pub reads : ReadsAs format fields x
  pub split : old ≡ concat fields ++ new

pub took_fields : {X : Type 0} (format : Format X) (old new : List ℕ) (x : X) → Took format old x new → Read format old x new
took_fields (ends value) old new x took = record { fields = []; reads = (refl, took.0); split = sym took.1 }
took_fields (goes kind test format) old new x took =
    let rest = took_fields (format took.0) took.1 new x took.3 in
    record {
      fields = field_of kind took.0 ∷ rest.fields;
      reads = (took.0, rest.fields, took.2.fit, took.2.passed, refl, rest.reads);
      split = took.2.split ∙ ap (λ (t : List ℕ). field_of kind took.0 ++ t) rest.split ∙ sym (append_assoc (field_of kind took.0) (concat rest.fields) new);
    }

-- the fields that one format reads, and then another
pub reads_bind : {X Y : Type 0} (format : Format X) (next : X → Format Y) (fields more : List (List ℕ)) (x : X) (y : Y) → ReadsAs format fields x → ReadsAs (next x) more y → ReadsAs (bind format next) (fields ++ more) y
reads_bind (ends value) next fields more x y reads then =
    subst (λ (f : List (List ℕ)). ReadsAs (next value) (f ++ more) y) (sym reads.0) (subst (λ v. ReadsAs (next v) more y) reads.1 then)
reads_bind (goes kind test format) next fields more x y reads then =
    (reads.0, reads.1 ++ more, reads.2, reads.3, ap (λ (f : List (List ℕ)). f ++ more) reads.4, reads_bind (format reads.0) next reads.1 more x y reads.5 then)

-- what is made of one thing is read where the thing is
pub ending : {X Y : Type 0} (format : Format X) (fields : List (List ℕ)) (x : X) (make : X → Y) → ReadsAs format fields x → ReadsAs (bind format (λ v. ends (make v))) fields (make x)
ending format fields x make reads = subst (λ (f : List (List ℕ)). ReadsAs (bind format (λ v. ends (make v))) f (make x)) (append-nil fields) (reads_bind format (λ v. ends (make v)) fields [] x (make x) reads (refl, refl))

pub record ReadBoth {X Y : Type 0} (format : Format X) (next : X → Format Y) (fields : List (List ℕ)) (y : Y) : Type 0 where
  pub value : X
  pub front : List (List ℕ)
  pub behind : List (List ℕ)
  pub first : ReadsAs format front value
  pub second : ReadsAs (next value) behind y
  pub split : fields ≡ front ++ behind

pub bind_reads : {X Y : Type 0} (format : Format X) (next : X → Format Y) (fields : List (List ℕ)) (y : Y) → ReadsAs (bind format next) fields y → ReadBoth format next fields y
bind_reads (ends value) next fields y reads = record { value = value; front = []; behind = fields; first = (refl, refl); second = reads; split = refl }
bind_reads (goes kind test format) next fields y reads =
    let rest = bind_reads (format reads.0) next reads.1 y reads.5 in
    record {
      value = rest.value;
      front = field_of kind reads.0 ∷ rest.front;
      behind = rest.behind;
      first = (reads.0, rest.front, reads.2, reads.3, refl, rest.first);
      second = rest.second;
      split = reads.4 ∙ ap (λ (f : List (List ℕ)). field_of kind reads.0 ∷ f) rest.split;
    }

-- no field goes on with the fields that were read
pub record Stops {X : Type 0} (format : Format X) (old new : List ℕ) : Type 0 where
  pub fields : List (List ℕ)
  pub split : old ≡ concat fields ++ new
  pub goes_on : GoesOn (Whole format) fields
  pub unfinished : Whole format fields → ⊥
  pub stuck : (field rest : List ℕ) → new ≡ field ++ rest → GoesOn (Whole format) (fields ++ field ∷ []) → ⊥

-- the first field is that of this value, and the rest are read behind it
behind : {X : Type 0} (kind : Kind) (test : Held kind → Bool) (format : Held kind → Format X) (value : Held kind) (fields : List (List ℕ)) → IsTrue (fits kind value) → Whole (goes kind test format) (field_of kind value ∷ fields) → Whole (format value) fields
behind kind test format value fields fit whole =
    let r = whole.1 in
    let heads : field_of kind value ≡ field_of kind r.0 = cc in
    let tails : fields ≡ r.1 = cc in
    let same : r.0 ≡ value = same_value kind r.0 value [] [] r.2 fit (ap (λ (f : List ℕ). f ++ []) (sym heads)) in
    (whole.0, subst (λ v. ReadsAs (format v) fields whole.0) same (subst (λ (f : List (List ℕ)). ReadsAs (format r.0) f whole.0) (sym tails) r.5))

pub stuck_stops : {X : Type 0} (format : Format X) (old new : List ℕ) → IsOpen format → Stuck format old new → Stops format old new
stuck_stops (ends value) old new is stuck = absurd stuck
stuck_stops (goes kind test format) old new is (inl none) =
    let whole = open_whole (goes kind test format) is in
    record {
      fields = [];
      split = sym none.0;
      goes_on = whole;
      unfinished = λ w. let e : ◌≡◌ {A = List (List ℕ)} [] (field_of kind w.1.0 ∷ w.1.1) = w.1.4 in absurd cc;
      stuck = λ field rest e on.
          let r = on.1.1 in
          let first : field ≡ field_of kind r.0 = cc in
          none.1 r.0 rest (record { fit = r.2; passed = r.3; split = sym none.0 ∙ e ∙ ap (λ (f : List ℕ). f ++ rest) first });
    }
stuck_stops (goes kind test format) old new is (inr s) =
    let fit = s.2.fit in
    let inner = stuck_stops (format s.0) s.1 new (is.3 s.0 fit s.2.passed) s.3 in
    record {
      fields = field_of kind s.0 ∷ inner.fields;
      split = s.2.split ∙ ap (λ (t : List ℕ). field_of kind s.0 ++ t) inner.split ∙ sym (append_assoc (field_of kind s.0) (concat inner.fields) new);
      goes_on = (inner.goes_on.0, (inner.goes_on.1.0, (s.0, inner.fields ++ inner.goes_on.0, fit, s.2.passed, refl, inner.goes_on.1.1)));
      unfinished = λ w. inner.unfinished (behind kind test format s.0 inner.fields fit w);
      stuck = λ field rest e on. inner.stuck field rest e (on.0, behind kind test format s.0 (inner.fields ++ field ∷ [] ++ on.0) fit on.1);
    }

-- whole fields don't go on
pub ends_there : {X : Type 0} (format : Format X) (fields more : List (List ℕ)) (x : X) → ReadsAs format fields x → Whole format (fields ++ more) → more ≡ []
ends_there (ends value) fields more x reads whole = ap (λ (f : List (List ℕ)). f ++ more) (sym reads.0) ∙ whole.1.0
ends_there (goes kind test format) fields more x reads whole =
    let moved : Whole (goes kind test format) (field_of kind reads.0 ∷ (reads.1 ++ more)) = subst (λ (f : List (List ℕ)). Whole (goes kind test format) (f ++ more)) reads.4 whole in
    ends_there (format reads.0) reads.1 more x reads.5 (behind kind test format reads.0 (reads.1 ++ more) reads.2 moved)

-- one list of fields begins with the other
pub data Beside (xs ys : List (List ℕ)) : Type 0 where
  longer : (more : List (List ℕ)) → ys ≡ xs ++ more → Beside xs ys
  shorter : (field : List ℕ) (more : List (List ℕ)) → xs ≡ ys ++ field ∷ more → Beside xs ys

beside_more : (x : List ℕ) (xs ys : List (List ℕ)) → Beside xs ys → Beside (x ∷ xs) (x ∷ ys)
beside_more x xs ys (longer more e) = longer more (ap (λ (f : List (List ℕ)). x ∷ f) e)
beside_more x xs ys (shorter field more e) = shorter field more (ap (λ (f : List (List ℕ)). x ∷ f) e)

pub beside : {X : Type 0} (format : Format X) (xs ys r s : List (List ℕ)) (a b : List ℕ) → Whole format (xs ++ r) → Whole format (ys ++ s) → concat xs ++ a ≡ concat ys ++ b → Beside xs ys
beside format [] ys r s a b v w e = longer ys refl
beside format (x ∷ xs) [] r s a b v w e = shorter x xs refl
beside (ends value) (x ∷ xs) (y ∷ ys) r s a b v w e = let none : ◌≡◌ {A = List (List ℕ)} (x ∷ (xs ++ r)) [] = v.1.0 in absurd cc
beside (goes kind test format) (x ∷ xs) (y ∷ ys) r s a b v w e =
    let p = v.1 in
    let q = w.1 in
    let x-is : x ≡ field_of kind p.0 = cc in
    let y-is : y ≡ field_of kind q.0 = cc in
    let p-rest : xs ++ r ≡ p.1 = cc in
    let q-rest : ys ++ s ≡ q.1 = cc in
    let flat : x ++ (concat xs ++ a) ≡ y ++ (concat ys ++ b) = sym (append_assoc x (concat xs) a) ∙ e ∙ append_assoc y (concat ys) b in
    let fields : field_of kind p.0 ++ (concat xs ++ a) ≡ field_of kind q.0 ++ (concat ys ++ b) = ap (λ (f : List ℕ). f ++ (concat xs ++ a)) (sym x-is) ∙ flat ∙ ap (λ (f : List ℕ). f ++ (concat ys ++ b)) y-is in
    let same : p.0 ≡ q.0 = same_value kind p.0 q.0 (concat xs ++ a) (concat ys ++ b) p.2 q.2 fields in
    let one : x ≡ y = x-is ∙ ap (field_of kind) same ∙ sym y-is in
    let left : concat xs ++ a ≡ concat ys ++ b = append_cancel_left x _ _ (flat ∙ ap (λ (f : List ℕ). f ++ (concat ys ++ b)) (sym one)) in
    let first : Whole (format q.0) (xs ++ r) = (v.0, subst (λ u. ReadsAs (format u) (xs ++ r) v.0) same (subst (λ (f : List (List ℕ)). ReadsAs (format p.0) f v.0) (sym p-rest) p.5)) in
    let second : Whole (format q.0) (ys ++ s) = (w.0, subst (λ (f : List (List ℕ)). ReadsAs (format q.0) f w.0) (sym q-rest) q.5) in
    subst (λ (z : List ℕ). Beside (x ∷ xs) (z ∷ ys)) one (beside_more x xs ys (beside (format q.0) xs ys r s a b first second left))

-- the bytes of fields are those of one value
pub one_value : {X : Type 0} (format : Format X) (xs ys : List (List ℕ)) (x y : X) → ReadsAs format xs x → ReadsAs format ys y → concat xs ≡ concat ys → x ≡ y
one_value (ends value) xs ys x y p q e = p.1 ∙ sym q.1
one_value (goes kind test format) xs ys x y p q e =
    let fields : field_of kind p.0 ++ concat p.1 ≡ field_of kind q.0 ++ concat q.1 = ap concat (sym p.4) ∙ e ∙ ap concat q.4 in
    let same : p.0 ≡ q.0 = same_value kind p.0 q.0 (concat p.1) (concat q.1) p.2 q.2 fields in
    let rest : concat p.1 ≡ concat q.1 = append_cancel_left (field_of kind q.0) _ _ (ap (λ v. field_of kind v ++ concat p.1) (sym same) ∙ fields) in
    one_value (format q.0) p.1 q.1 x y (subst (λ v. ReadsAs (format v) p.1 x) same p.5) q.5 rest

-- what is left behind the fields in front
left_behind : (bytes left : List ℕ) (front more : List (List ℕ)) (field tail : List ℕ) → bytes ≡ concat front ++ left → bytes ≡ concat (front ++ field ∷ more) ++ tail → left ≡ field ++ (concat more ++ tail)
left_behind bytes left front more field tail e split =
    let flat : concat front ++ left ≡ concat front ++ (field ++ (concat more ++ tail)) = sym e ∙ split ∙ ap (λ (t : List ℕ). t ++ tail) (concat-append front (field ∷ more)) ∙ append_assoc (concat front) (field ++ concat more) tail ∙ ap (λ (t : List ℕ). concat front ++ t) (append_assoc field (concat more) tail) in
    append_cancel_left (concat front) _ _ flat

-- where a field goes on there is no fault
apart : {X : Type 0} (format : Format X) (bytes : List ℕ) (place : ℕ) (fault : IsFirstFault (Whole format) bytes place) (field tail : List ℕ) (more rest : List (List ℕ))
    → bytes ≡ concat (fault.fields ++ field ∷ more) ++ tail → Whole format ((fault.fields ++ field ∷ more) ++ rest) → ⊥
apart format bytes place fault field tail more rest split whole =
    let moved : Whole format ((fault.fields ++ field ∷ []) ++ (more ++ rest)) = subst (Whole format) (append_assoc fault.fields (field ∷ more) rest ∙ sym (append_assoc fault.fields (field ∷ []) (more ++ rest))) whole in
    fault.stuck field (concat more ++ tail) (left_behind bytes fault.left fault.fields more field tail fault.read split) (more ++ rest, moved)

-- whole fields have no fault
no_fault_beside : {X : Type 0} (format : Format X) (fields : List (List ℕ)) (place : ℕ) → Whole format fields → (fault : IsFirstFault (Whole format) (concat fields) place) → Beside fields fault.fields → ⊥
no_fault_beside format fields place whole fault (longer more e) =
    let on : Whole format (fields ++ (more ++ fault.goes_on.0)) = subst (Whole format) (ap (λ (f : List (List ℕ)). f ++ fault.goes_on.0) e ∙ append_assoc fields more fault.goes_on.0) fault.goes_on.1 in
    let none : more ++ fault.goes_on.0 ≡ [] = ends_there format fields (more ++ fault.goes_on.0) whole.0 whole.1 on in
    let nothing : more ≡ [] = nil_from_length more (omega (arith, ap length none, length-append more fault.goes_on.0)) in
    let same : fault.fields ≡ fields = e ∙ ap (λ (f : List (List ℕ)). fields ++ f) nothing ∙ append-nil fields in
    let left : fault.left ≡ [] = append_cancel_left (concat fields) _ _ (ap (λ (f : List (List ℕ)). concat f ++ fault.left) (sym same) ∙ sym fault.read ∙ sym (append-nil (concat fields))) in
    fault.unfinished left (subst (Whole format) (sym same) whole)
no_fault_beside format fields place whole fault (shorter field more e) =
    let split : concat fields ≡ concat (fault.fields ++ field ∷ more) ++ [] = ap concat e ∙ sym (append-nil (concat (fault.fields ++ field ∷ more))) in
    let moved : Whole format ((fault.fields ++ field ∷ more) ++ []) = subst (Whole format) (e ∙ sym (append-nil (fault.fields ++ field ∷ more))) whole in
    apart format (concat fields) place fault field [] more [] split moved

pub no_fault : {X : Type 0} (format : Format X) (fields : List (List ℕ)) (place : ℕ) → Whole format fields → IsFirstFault (Whole format) (concat fields) place → ⊥
no_fault format fields place whole fault =
    let itself : Whole format (fields ++ []) = subst (Whole format) (sym (append-nil fields)) whole in
    no_fault_beside format fields place whole fault (beside format fields fault.fields [] fault.goes_on.0 [] fault.left itself fault.goes_on.1 (append-nil (concat fields) ∙ fault.read))

-- there is one first fault
one_fault_beside : {X : Type 0} (format : Format X) (bytes : List ℕ) (place other : ℕ) (fault : IsFirstFault (Whole format) bytes place) (second : IsFirstFault (Whole format) bytes other) → Beside fault.fields second.fields → place ≡ other
one_fault_beside format bytes place other fault second (longer [] e) = fault.after ∙ ap (λ (f : List (List ℕ)). length (concat f)) (sym (append-nil fault.fields) ∙ sym e) ∙ sym second.after
one_fault_beside format bytes place other fault second (longer (field ∷ more) e) =
    let split : bytes ≡ concat (fault.fields ++ field ∷ more) ++ second.left = second.read ∙ ap (λ (f : List (List ℕ)). concat f ++ second.left) e in
    let whole : Whole format ((fault.fields ++ field ∷ more) ++ second.goes_on.0) = subst (λ (f : List (List ℕ)). Whole format (f ++ second.goes_on.0)) e second.goes_on.1 in
    absurd (apart format bytes place fault field second.left more second.goes_on.0 split whole)
one_fault_beside format bytes place other fault second (shorter field more e) =
    let split : bytes ≡ concat (second.fields ++ field ∷ more) ++ fault.left = fault.read ∙ ap (λ (f : List (List ℕ)). concat f ++ fault.left) e in
    let whole : Whole format ((second.fields ++ field ∷ more) ++ fault.goes_on.0) = subst (λ (f : List (List ℕ)). Whole format (f ++ fault.goes_on.0)) e fault.goes_on.1 in
    absurd (apart format bytes other second field fault.left more fault.goes_on.0 split whole)

pub one_fault : {X : Type 0} (format : Format X) (bytes : List ℕ) (place other : ℕ) → IsFirstFault (Whole format) bytes place → IsFirstFault (Whole format) bytes other → place ≡ other
one_fault format bytes place other fault second =
    one_fault_beside format bytes place other fault second (beside format fault.fields second.fields fault.goes_on.0 second.goes_on.0 fault.left second.left fault.goes_on.1 second.goes_on.1 (sym fault.read ∙ second.read))

-- the same lists of fields have the same faults
pub same_faults : (A B : List (List ℕ) → Type 0) → ((fields : List (List ℕ)) → A fields → B fields) → ((fields : List (List ℕ)) → B fields → A fields) → (bytes : List ℕ) (place : ℕ) → IsFirstFault A bytes place → IsFirstFault B bytes place
same_faults A B to from bytes place fault = record {
  fields = fault.fields;
  left = fault.left;
  read = fault.read;
  after = fault.after;
  goes_on = (fault.goes_on.0, to (fault.fields ++ fault.goes_on.0) fault.goes_on.1);
  unfinished = λ none is. fault.unfinished none (from fault.fields is);
  stuck = λ field rest e on. fault.stuck field rest e (on.0, from (fault.fields ++ field ∷ [] ++ on.0) on.1);
}
