-- What a replay keeps from line to line, and what it comes to at each end.
use Rattle.std.proofs.Common.{◌≡◌, ℕ, ◌+◌, ◌≤◌, ◌<◌, List, [], ◌∷◌, ◌++◌, length, take, drop, Option, Some, None, IfSome, Result, Ok, Err, IsOk, inl, inr, refl, sym, ap, ◌∙◌, subst, arith, lit≤, append-nil, append_assoc, length-append}
use Rattle.std.proofs.lemmas.List.{take-append-drop, take_all}
use Rattle.std.proofs.lemmas.List.Concat.{flat_map-append}
use Rattle.std.specs.Io.KnownBytes.{Appends, prepend_known}
use Rattle.std.proofs.KnownBytes.{Appends-nil, Appends-trans}
use Rattle.std.proofs.lemmas.Bool.{false≢true}
use Rattle.pc_base.specs.declared.failure.Failed.{Failed}
use Rattle.pc_base.specs.Stream.{AppendsFront}
use Rattle.pc_wire.specs.Lines.{lines_of}
use Rattle.pc_wire.specs.Reader.{ReaderState, IfTold, TakesLine, TakesFront, BeginsLong, LosesExcess, no_line, unread}
use Rattle.pc_wire.proofs.ReaderLemmas.{TakesFront-none, TakesLine-leads, TakesLine-first}
use Rattle.pc_world.proofs.Chains.{lines_in-push, Chain-push}
use Rattle.pc_world.proofs.OfForm.{not_refused}
use Rattle.pc_world.proofs.Stopped.{stops_bad, long_none}
use Rattle.pc_world.specs.Account.{Account}
use Rattle.pc_world.specs.Runs.{Plays, Chain, GoesOn, IsRun, IsRefused, lines_in, text_of, ended, most_lines}
use Rattle.pc_world.specs.Replay.{Stops, Finishes, Sends, WritesFront, Ends, Completes, Refuses}
use Rattle.pc_world.specs.declared.replaying.ReplayEnd.{ReplayEnd}
use Rattle.pc_world.specs.declared.replaying.ReplayEnd.TheVariants.{Done, Refused, ReadFault, WriteFault, Memory}

text_of-append : (lines more : List (List ℕ)) → text_of (lines ++ more) ≡ text_of lines ++ text_of more
text_of-append lines more = flat_map-append ended lines more

-- the bytes before the rest have the events' lines, and in front of every part of the rest they do, too
pub record HasPlayed (events : List (List (List ℕ))) (bytes rest : List ℕ) : Type 0 where
  pub played : List ℕ
  pub split : bytes ≡ played ++ rest
  pub leads : (ahead left : List ℕ) → rest ≡ ahead ++ left → lines_of (played ++ ahead) ≡ lines_in events ++ lines_of ahead

-- what a replay keeps: events of the script are played, and what they print is written, but for what is pending
pub record IsPlayed (script unread before after : Option (List ℕ)) (world : List Account) (pending : List ℕ) (count : ℕ) : Type 0 where
  pub events : List (List (List ℕ))
  pub printed : List (List ℕ)
  pub out : List ℕ
  pub told : IfTold script unread (HasPlayed events)
  pub counted : length (lines_in events) ≡ count
  pub few : count ≤ most_lines
  pub chain : Chain [] events printed world
  pub appended : Appends before after out
  pub text : out ++ pending ≡ text_of printed

HasPlayed-none : (bytes : List ℕ) → HasPlayed [] bytes bytes
HasPlayed-none bytes = record { played = []; split = refl; leads = λ ahead left split. refl }

HasPlayed-lines : (events : List (List (List ℕ))) (bytes rest : List ℕ) → HasPlayed events bytes rest → lines_of bytes ≡ lines_in events ++ lines_of rest
HasPlayed-lines events bytes rest played = ap lines_of played.split ∙ played.leads rest [] (sym (append-nil rest))

HasPlayed-more : (events : List (List (List ℕ))) (bytes rest rest' line : List ℕ) → HasPlayed events bytes rest → TakesLine line rest rest' → HasPlayed (events ++ (line ∷ []) ∷ []) bytes rest'
HasPlayed-more events bytes rest rest' line played taken = record {
  played = played.played ++ taken.spelling;
  split = played.split ∙ ap (λ (xs : List ℕ). played.played ++ xs) taken.split ∙ sym (append_assoc played.played taken.spelling rest');
  leads = λ ahead left split.
      ap lines_of (append_assoc played.played taken.spelling ahead)
      ∙ played.leads (taken.spelling ++ ahead) left (taken.split ∙ ap (λ (xs : List ℕ). taken.spelling ++ xs) split ∙ sym (append_assoc taken.spelling ahead left))
      ∙ ap (λ (lines : List (List ℕ)). lines_in events ++ lines) (TakesLine-leads line rest rest' ahead left taken split)
      ∙ sym (append_assoc (lines_in events) (line ∷ []) (lines_of ahead))
      ∙ ap (λ (lines : List (List ℕ)). lines ++ lines_of ahead) (sym (lines_in-push events (line ∷ [])));
}

IfTold-start : (script : Option (List ℕ)) → IfTold script (prepend_known [] script) (HasPlayed [])
IfTold-start None = tt
IfTold-start (Some bytes) = HasPlayed-none bytes

pub IsPlayed-none : (script before : Option (List ℕ)) → IsPlayed script (prepend_known [] script) before before [] [] 0
IsPlayed-none script before = record {
  events = [];
  printed = [];
  out = [];
  told = IfTold-start script;
  counted = refl;
  few = lit≤ tt;
  chain = (refl, refl);
  appended = Appends-nil before;
  text = refl;
}

-- at the start nothing is read, played or printed
pub IsPlayed-start : (script before : Option (List ℕ)) (state : ReaderState) (world : List Account) (text : List ℕ)
    → state ≡ record { limit = 1000; ahead = []; waits = no_line } → world ≡ [] → text ≡ [] → IsPlayed script (unread state script) before before world text 0
IsPlayed-start script before state world text new empty blank =
    let P : ReaderState → Type 0 = λ s. IsPlayed script (unread s script) before before world text 0 in
    let Q : List Account → Type 0 = λ w. IsPlayed script (prepend_known [] script) before before w text 0 in
    let R : List ℕ → Type 0 = λ t. IsPlayed script (prepend_known [] script) before before [] t 0 in
    subst P (sym new) (subst Q (sym empty) (subst R (sym blank) (IsPlayed-none script before)))

pub IsPlayed-count : (script unread before after : Option (List ℕ)) (world : List Account) (pending : List ℕ) (count same : ℕ)
    → count ≡ same → IsPlayed script unread before after world pending count → IsPlayed script unread before after world pending same
IsPlayed-count script unread before after world pending count same equal played =
    subst (λ (n : ℕ). IsPlayed script unread before after world pending n) equal played

told_more : (script unread unread' : Option (List ℕ)) (events : List (List (List ℕ))) (line : List ℕ)
    → IfTold script unread (HasPlayed events) → IfTold unread unread' (TakesLine line) → IfTold script unread' (HasPlayed (events ++ (line ∷ []) ∷ []))
told_more None unread unread' events line told more = tt
told_more (Some bytes) None unread' events line told more = absurd told
told_more (Some bytes) (Some rest) None events line told more = absurd more
told_more (Some bytes) (Some rest) (Some rest') events line told more = HasPlayed-more events bytes rest rest' line told more

pub IsPlayed-more : (script unread unread' before after : Option (List ℕ)) (world next : List Account) (pending pending' : List ℕ) (count : ℕ) (line : List ℕ) (printed : List (List ℕ))
    → count < most_lines
    → IsPlayed script unread before after world pending count
    → IfTold unread unread' (TakesLine line)
    → Plays world (line ∷ []) printed next
    → pending' ≡ pending ++ text_of printed
    → IsPlayed script unread' before after next pending' (count + 1)
IsPlayed-more script unread unread' before after world next pending pending' count line printed within played more plays shown = record {
  events = played.events ++ (line ∷ []) ∷ [];
  printed = played.printed ++ printed;
  out = played.out;
  told = told_more script unread unread' played.events line played.told more;
  counted = ap length (lines_in-push played.events (line ∷ [])) ∙ length-append (lines_in played.events) (line ∷ []) ∙ ap (λ n. n + 1) played.counted;
  few = omega arith;
  chain = Chain-push [] played.events played.printed world (line ∷ []) printed next played.chain plays;
  appended = played.appended;
  text = ap (λ (bytes : List ℕ). played.out ++ bytes) shown ∙ sym (append_assoc played.out pending (text_of printed)) ∙ ap (λ (bytes : List ℕ). bytes ++ text_of printed) played.text ∙ sym (text_of-append played.printed printed);
}

-- the same, where what is pending was written
pub IsPlayed-sent : (script unread before after after' : Option (List ℕ)) (world : List Account) (pending : List ℕ) (count : ℕ)
    → IsPlayed script unread before after world pending count → Appends after after' pending → IsPlayed script unread before after' world [] count
IsPlayed-sent script unread before after after' world pending count played sent = record {
  events = played.events;
  printed = played.printed;
  out = played.out ++ pending;
  told = played.told;
  counted = played.counted;
  few = played.few;
  chain = played.chain;
  appended = Appends-trans before after after' played.out pending played.appended sent;
  text = append-nil (played.out ++ pending) ∙ played.text;
}

pub IsPlayed-passed : (script unread before after after' : Option (List ℕ)) (world : List Account) (pending pending' : List ℕ) (count : ℕ) (result : Result Unit Failed)
    → IsPlayed script unread before after world pending count → IsOk result → Sends after after' pending pending' result → IsPlayed script unread before after' world pending' count
IsPlayed-passed script unread before after after' world pending pending' count (Ok done) played fine (inl kept) =
    let P : Option (List ℕ) → Type 0 = λ written. IsPlayed script unread before written world pending' count in
    let Q : List ℕ → Type 0 = λ text. IsPlayed script unread before after world text count in
    subst P (sym kept.1) (subst Q (sym kept.0) played)
IsPlayed-passed script unread before after after' world pending pending' count (Ok done) played fine (inr sent) =
    let Q : List ℕ → Type 0 = λ text. IsPlayed script unread before after' world text count in
    subst Q (sym sent.0) (IsPlayed-sent script unread before after after' world pending count played sent.1)
IsPlayed-passed script unread before after after' world pending pending' count (Err failed) played fine sends = absurd (false≢true fine)

moved : (front ahead read rest : List ℕ) → front ++ (ahead ++ (read ++ rest)) ≡ (front ++ (ahead ++ read)) ++ rest
moved front ahead read rest = ap (λ (xs : List ℕ). front ++ xs) (sym (append_assoc ahead read rest)) ∙ sym (append_assoc front (ahead ++ read) rest)

-- a front of a transcript was written, whatever of what is pending, and whatever more was read
front_written : (script : Option (List ℕ)) (ahead : List ℕ) (left left' before after after' : Option (List ℕ)) (world : List Account) (pending : List ℕ) (count shown : ℕ)
    → IsPlayed script (prepend_known ahead left) before after world pending count → TakesFront left left' → Appends after after' (take shown pending) → WritesFront script left' before after'
front_written None ahead left left' before after after' world pending count shown played front sent = tt
front_written (Some bytes) ahead None left' before after after' world pending count shown played front sent = absurd played.told
front_written (Some bytes) ahead (Some left) None before after after' world pending count shown played front sent = absurd front
front_written (Some bytes) ahead (Some left) (Some left') before after after' world pending count shown played front sent =
    let read = front.0 in
    let unread : ahead ++ left ≡ ahead ++ (read ++ left') = ap (λ (xs : List ℕ). ahead ++ xs) front.1 in (
      played.told.played ++ (ahead ++ read),
      (
        played.out ++ take shown pending,
        (
          played.told.split ∙ ap (λ (xs : List ℕ). played.told.played ++ xs) unread ∙ moved played.told.played ahead read left',
          Appends-trans before after after' played.out (take shown pending) played.appended sent,
          record {
            rest = lines_of (ahead ++ left);
            printed = played.printed;
            last = world;
            begins = record {
              events = played.events;
              split = HasPlayed-lines played.events bytes (ahead ++ left) played.told;
              few = rw played.counted played.few;
              chain = played.chain;
            };
            unplayed = lines_of (ahead ++ read);
            whole = played.told.leads (ahead ++ read) left' (unread ∙ sym (append_assoc ahead read left'));
            more = drop shown pending;
            text_is = append_assoc played.out (take shown pending) (drop shown pending) ∙ ap (λ (text : List ℕ). played.out ++ text) (take-append-drop shown pending) ∙ played.text;
          },
        ),
      ),
    )

all_taken : (pending : List ℕ) → take (length pending) pending ≡ pending
all_taken pending = take_all (length pending) pending (omega arith)

pub Ends-write_fault : (script : Option (List ℕ)) (ahead : List ℕ) (left left' before after after' : Option (List ℕ)) (world : List Account) (pending : List ℕ) (count : ℕ)
    → IsPlayed script (prepend_known ahead left) before after world pending count → TakesFront left left' → AppendsFront after after' pending → Ends script left' before after' WriteFault
Ends-write_fault script ahead left left' before after after' world pending count played front sent =
    front_written script ahead left left' before after after' world pending count sent.0 played front sent.1

whole_front : (script : Option (List ℕ)) (ahead : List ℕ) (left left' before after after' : Option (List ℕ)) (world : List Account) (pending : List ℕ) (count : ℕ)
    → IsPlayed script (prepend_known ahead left) before after world pending count → TakesFront left left' → Appends after after' pending → WritesFront script left' before after'
whole_front script ahead left left' before after after' world pending count played front written =
    front_written script ahead left left' before after after' world pending count (length pending) played front (subst (λ (text : List ℕ). Appends after after' text) (sym (all_taken pending)) written)

-- nothing was read, played or written
pub Ends-none : (script before : Option (List ℕ)) → Ends script script before before Memory
Ends-none script before = whole_front script [] script script before before before [] [] 0 (IsPlayed-none script before) (TakesFront-none script) (Appends-nil before)

-- the text that was written is the one that was pending
pub Finishes-text : (before after : Option (List ℕ)) (faults faults' : ℕ) (shown pending : List ℕ) (end result : ReplayEnd) → shown ≡ pending → Finishes before after faults faults' shown end result → Finishes before after faults faults' pending end result
Finishes-text before after faults faults' shown pending end result same finished =
    subst (λ (text : List ℕ). Finishes before after faults faults' text end result) same finished

-- however the writing went, what it was to end with holds where it did, and a front was written where it failed
ends_by : (script : Option (List ℕ)) (ahead : List ℕ) (left left' before after after' : Option (List ℕ)) (world : List Account) (pending : List ℕ) (count faults faults' : ℕ) (end result : ReplayEnd)
    → IsPlayed script (prepend_known ahead left) before after world pending count
    → TakesFront left left'
    → Finishes after after' faults faults' pending end result
    → (Appends after after' pending → Ends script left' before after' end)
    → Ends script left' before after' result
ends_by script ahead left left' before after after' world pending count faults faults' end result played front (inl written) whole =
    subst (λ (e : ReplayEnd). Ends script left' before after' e) (sym written.0) (whole written.1)
ends_by script ahead left left' before after after' world pending count faults faults' end result played front (inr failed) whole =
    subst (λ (e : ReplayEnd). Ends script left' before after' e) (sym failed.0) (Ends-write_fault script ahead left left' before after after' world pending count played front failed.1)

pub Ends-read_fault : (script : Option (List ℕ)) (ahead : List ℕ) (left left' before after after' : Option (List ℕ)) (world : List Account) (pending : List ℕ) (count faults faults' : ℕ) (result : ReplayEnd)
    → IsPlayed script (prepend_known ahead left) before after world pending count → TakesFront left left' → Finishes after after' faults faults' pending ReadFault result → Ends script left' before after' result
Ends-read_fault script ahead left left' before after after' world pending count faults faults' result played front finished =
    ends_by script ahead left left' before after after' world pending count faults faults' ReadFault result played front finished (whole_front script ahead left left' before after after' world pending count played front)

pub Ends-memory : (script : Option (List ℕ)) (ahead : List ℕ) (left left' before after after' : Option (List ℕ)) (world : List Account) (pending : List ℕ) (count faults faults' : ℕ) (result : ReplayEnd)
    → IsPlayed script (prepend_known ahead left) before after world pending count → TakesFront left left' → Finishes after after' faults faults' pending Memory result → Ends script left' before after' result
Ends-memory script ahead left left' before after after' world pending count faults faults' result played front finished =
    ends_by script ahead left left' before after after' world pending count faults faults' Memory result played front finished (whole_front script ahead left left' before after after' world pending count played front)

some_end : (ahead : List ℕ) (left : Option (List ℕ)) (rest : List ℕ) → prepend_known ahead left ≡ Some rest → rest ≡ [] → left ≡ Some []
some_end ahead None rest known empty = cc
some_end [] (Some left) rest known empty = cc
some_end (byte ∷ ahead) (Some left) rest known empty = cc

-- the input has no more line, and few lines were played
done : (script left unread before after after' : Option (List ℕ)) (ahead : List ℕ) (world : List Account) (pending : List ℕ) (count : ℕ)
    → IsPlayed script unread before after world pending count
    → IfTold unread (prepend_known ahead left) (λ bytes rest. (lines_of bytes ≡ []) × (rest ≡ []))
    → Appends after after' pending
    → Ends script left before after' Done
done None left unread before after after' ahead world pending count played ended written = (tt, tt)
done (Some bytes) left None before after after' ahead world pending count played ended written = absurd played.told
done (Some bytes) None (Some rest) before after after' ahead world pending count played ended written = absurd ended
done (Some bytes) (Some left) (Some rest) before after after' ahead world pending count played ended written =
    let split : lines_of bytes ≡ lines_in played.events ++ [] = HasPlayed-lines played.events bytes rest played.told ∙ ap (λ (lines : List (List ℕ)). lines_in played.events ++ lines) ended.0 in (
      some_end ahead (Some left) (ahead ++ left) refl ended.1,
      (
        played.out ++ pending,
        (
          Appends-trans before after after' played.out pending played.appended written,
          record {
            printed = played.printed;
            last = world;
            run = record { events = played.events; split = split; few = rw played.counted played.few; chain = played.chain };
            text = played.text;
          },
        ),
      ),
    )

pub Ends-done : (script : Option (List ℕ)) (ahead : List ℕ) (left left' before after after' : Option (List ℕ)) (ahead' : List ℕ) (world : List Account) (pending : List ℕ) (count faults faults' : ℕ) (result : ReplayEnd)
    → IsPlayed script (prepend_known ahead left) before after world pending count
    → TakesFront left left'
    → IfTold (prepend_known ahead left) (prepend_known ahead' left') (λ bytes rest. (lines_of bytes ≡ []) × (rest ≡ []))
    → Finishes after after' faults faults' pending Done result
    → Ends script left' before after' result
Ends-done script ahead left left' before after after' ahead' world pending count faults faults' result played front ended finished =
    ends_by script ahead left left' before after after' world pending count faults faults' Done result played front finished (done script left' (prepend_known ahead left) before after after' ahead' world pending count played ended)

-- the next line stops the world, where its number is within the limit
abbrev pub StopsAt : List Account → ℕ → List ℕ → Type 0
StopsAt world number bytes = (line : List ℕ) × ((rest : List (List ℕ)) × ((lines_of bytes ≡ line ∷ rest) × (number ≤ most_lines → GoesOn world (line ∷ rest) → ⊥)))

number_is : (front : List (List ℕ)) (line : List ℕ) (rest all : List (List ℕ)) (count : ℕ) → length front ≡ count → all ≡ front ++ line ∷ rest → count + 1 + length rest ≡ length all
number_is front line rest all count counted split = omega (arith, ap length split, length-append front (line ∷ rest), counted)

refused : (script left unread before after after' : Option (List ℕ)) (world : List Account) (pending : List ℕ) (count : ℕ)
    → IsPlayed script unread before after world pending count
    → IfSome unread (StopsAt world (count + 1))
    → Appends after after' pending
    → Ends script left before after' (Refused (count + 1))
refused None left unread before after after' world pending count played stops written = tt
refused (Some bytes) left None before after after' world pending count played stops written = absurd played.told
refused (Some bytes) left (Some unread) before after after' world pending count played stops written =
    let line = stops.0 in
    let rest = stops.1.0 in
    let split : lines_of bytes ≡ lines_in played.events ++ line ∷ rest = HasPlayed-lines played.events bytes unread played.told ∙ ap (λ (lines : List (List ℕ)). lines_in played.events ++ lines) stops.1.1.0 in (
      played.out ++ pending,
      (
        Appends-trans before after after' played.out pending played.appended written,
        record {
          line = line;
          rest = rest;
          printed = played.printed;
          last = world;
          begins = record { events = played.events; split = split; few = rw played.counted played.few; chain = played.chain };
          number_is = number_is (lines_in played.events) line rest (lines_of bytes) count played.counted split;
          within = omega (arith, played.few);
          text_is = played.text;
          stops = stops.1.1.1;
        },
      ),
    )

pub Ends-refused : (script : Option (List ℕ)) (ahead : List ℕ) (left left' before after after' : Option (List ℕ)) (world : List Account) (pending : List ℕ) (count faults faults' : ℕ) (result : ReplayEnd)
    → IsPlayed script (prepend_known ahead left) before after world pending count
    → TakesFront left left'
    → IfSome (prepend_known ahead left) (StopsAt world (count + 1))
    → Finishes after after' faults faults' pending (Refused (count + 1)) result
    → Ends script left' before after' result
Ends-refused script ahead left left' before after after' world pending count faults faults' result played front stops finished =
    ends_by script ahead left left' before after after' world pending count faults faults' (Refused (count + 1)) result played front finished (refused script left' (prepend_known ahead left) before after after' world pending count played stops)

pub StopsAt-stops : (unread : Option (List ℕ)) (world : List Account) (number : ℕ) → IfSome unread (Stops world) → IfSome unread (StopsAt world number)
StopsAt-stops None world number stops = tt
StopsAt-stops (Some bytes) world number stops = (stops.0, (stops.1.0, (stops.1.1.0, λ _. stops.1.1.1)))

-- one line more than the limit
pub StopsAt-past : (unread unread' : Option (List ℕ)) (world : List Account) (line : List ℕ) → IfTold unread unread' (TakesLine line) → IfSome unread (StopsAt world (most_lines + 1))
StopsAt-past None unread' world line more = tt
StopsAt-past (Some bytes) None world line more = absurd more
StopsAt-past (Some bytes) (Some rest) world line more = (line, (lines_of rest, (TakesLine-first line bytes rest more, λ within. absurd (omega (arith, within)))))

-- a line that is too long
pub StopsAt-overlong : (unread unread' : Option (List ℕ)) (world : List Account) (number : ℕ)
    → IfTold unread unread' (λ bytes rest. BeginsLong 1001 bytes × LosesExcess 1000 bytes rest) → IfSome unread (StopsAt world number)
StopsAt-overlong None unread' world number long = tt
StopsAt-overlong (Some bytes) None world number long = absurd long
StopsAt-overlong (Some bytes) (Some rest) world number long =
    let begins = long.0 in
    (begins.0, (begins.1.0, (begins.1.1.0, λ _. stops_bad world begins.0 (long_none begins.0 (omega (arith, begins.1.1.1))) begins.1.0)))

-- what succeeds, and which refusal comes, follow from how a replay may end and from the causes of the failures
pub Completes-ends : (script left before after : Option (List ℕ)) (ReadRose WriteRose : Type 0) (end : ReplayEnd)
    → Ends script left before after end → (end ≡ ReadFault → ReadRose) → (end ≡ WriteFault → WriteRose) → Completes script ReadRose WriteRose end
Completes-ends None left before after ReadRose WriteRose end ends read write = tt
Completes-ends (Some bytes) left before after ReadRose WriteRose Done ends read write = λ form still_read still_written. tt
Completes-ends (Some bytes) left before after ReadRose WriteRose Memory ends read write = λ form still_read still_written. tt
Completes-ends (Some bytes) left before after ReadRose WriteRose (Refused number) ends read write = λ form still_read still_written. not_refused bytes number ends.0 form ends.1.1
Completes-ends (Some bytes) left before after ReadRose WriteRose ReadFault ends read write = λ form still_read still_written. still_read (read refl)
Completes-ends (Some bytes) left before after ReadRose WriteRose WriteFault ends read write = λ form still_read still_written. still_written (write refl)

pub Refuses-ends : (script left before after : Option (List ℕ)) (ReadRose WriteRose : Type 0) (end : ReplayEnd)
    → ((bytes t u : List ℕ) (n : ℕ) → IsRun bytes t → IsRefused bytes n u → ⊥)
    → ((bytes t u : List ℕ) (n m : ℕ) → IsRefused bytes n t → IsRefused bytes m u → (n ≡ m) × (t ≡ u))
    → Ends script left before after end → (end ≡ ReadFault → ReadRose) → (end ≡ WriteFault → WriteRose) → Refuses script ReadRose WriteRose end
Refuses-ends None left before after ReadRose WriteRose end run_or_refused once ends read write = tt
Refuses-ends (Some bytes) left before after ReadRose WriteRose Done run_or_refused once ends read write =
    λ number text refusal still_read still_written. run_or_refused bytes ends.1.0 text number ends.1.1.1 refusal
Refuses-ends (Some bytes) left before after ReadRose WriteRose Memory run_or_refused once ends read write = λ number text refusal still_read still_written. tt
Refuses-ends (Some bytes) left before after ReadRose WriteRose (Refused line) run_or_refused once ends read write =
    λ number text refusal still_read still_written. (once bytes ends.0 text line number ends.1.1 refusal).0
Refuses-ends (Some bytes) left before after ReadRose WriteRose ReadFault run_or_refused once ends read write = λ number text refusal still_read still_written. still_read (read refl)
Refuses-ends (Some bytes) left before after ReadRose WriteRose WriteFault run_or_refused once ends read write = λ number text refusal still_read still_written. still_written (write refl)
