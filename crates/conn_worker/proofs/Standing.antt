-- Where a dialogue stands, after one more event.
use Rattle.std.proofs.Common.{◌≡◌, ℕ, ◌+◌, Bool, true, false, cond, List, [], ◌∷◌, ◌++◌, length, drop, take, take-append-drop, slice_get, map, None, Some, Result, Ok, Err, OnOk, OnErr, refl, sym, ap, ◌∙◌, append_assoc, append-nil, arith}
use Rattle.std.specs.List.{filter_map, count_by, cons_option}
use Rattle.std.specs.Result.{is_err}
use mir.Val.{bool_byte}
use Rattle.std.proofs.lemmas.List.{map-append}
use Rattle.std.proofs.lemmas.List.Sums.{sum_by-append}
use Rattle.std.proofs.lemmas.List.Elements.{filter_map-append}
use Rattle.book_core.specs.declared.receipt.Receipt.{Receipt}
use Rattle.judge_core.specs.Judging.{is_bookable}
use Rattle.mllp_frame.specs.Event.{FramingEvent, block, broken}
use Rattle.mllp_frame.specs.declared.Break.{Break}
use Rattle.conn_worker.specs.declared.dialogue.Progress.{Progress}
use Rattle.conn_worker.specs.declared.report.ServeReport.{ServeReport}
use Rattle.conn_core.specs.Replies.{Answer, Due, dues, dues_of, numbered, replies}
use Rattle.conn_core.specs.inner.Replies.{answer_to}
use Rattle.conn_core.specs.Messages.{message_of, is_unreadable_block, is_stray_block, is_break, message_by, booked, booked_with}
use Rattle.conn_core.specs.declared.block_outcome.Booked.{Booked}
use Rattle.conn_core.specs.declared.block_outcome.BlockOutcome.{BlockOutcome}
use Rattle.conn_core.specs.declared.block_outcome.BlockOutcome.TheVariants.{Unreadable, Stray, Message}
use Rattle.conn_core.specs.inner.Outcomes.{AppendsInPart, IsOutcome, KnowsRepeat, dues_in, is_whole, receipts_in}
use Rattle.conn_worker.specs.inner.Counting.{unbooked_in, unreadable_in, strays_in}
use Rattle.conn_worker.specs.Serving.{IsKnownIfRepeated, ReportsServing}
use Rattle.conn_worker.specs.inner.Handling.{Stands, StandsAmid, HandlesAll, HandlesFront}
use Rattle.conn_core.proofs.Numbering.{numbered-append}
use Rattle.conn_core.proofs.Texts.{IsNoMessage, IsStrayText, IsMessageText, bookable_text, stray_known, unreadable_text}
use Rattle.conn_worker.proofs.Growing.{Adds, known_all, known_more, known_told, message_of_receipt, unbooked_is}

pub dues-append : (xs ys : List Answer) → dues (xs ++ ys) ≡ dues xs ++ dues ys
dues-append [] ys = refl
dues-append (x ∷ xs) ys = ap (λ l. dues_of x ++ l) (dues-append xs ys) ∙ sym (append_assoc (dues_of x) (dues xs) (dues ys))

-- one more of a count
count_one : {X : Type 0} (p : X → Bool) (xs : List X) (x : X) → count_by p (xs ++ x ∷ []) ≡ count_by p xs + cond (p x) 1 0
count_one p xs x = omega (arith, sum_by-append (λ y. cond (p y) 1 0) xs (x ∷ []))

-- what a dialogue shows of another: the same but for its receipts, its counters, the replies made and their bytes
pub record Changes {K : Type 0} (old new : Progress K) (unreadable_ones stray_ones broken_ones : ℕ) : Type 0 where
  pub unbooked : new.report.unbooked ≡ old.report.unbooked
  pub unreadable : new.report.unreadable ≡ old.report.unreadable + unreadable_ones
  pub strays : new.report.strays ≡ old.report.strays + stray_ones
  pub breaks : new.report.breaks ≡ old.report.breaks + broken_ones
  pub made : new.replies.made ≡ old.replies.made
  pub bytes : new.replies.bytes ≡ old.replies.bytes

module _ {B K : Type 0} {books : B → List Receipt → Type 0} {knows : B → ℕ → List ℕ → Type 0} {has : K → List Receipt → Type 0} {conn channel : ℕ} {before : List FramingEvent} {text : List ℕ} {b b' : B} where
  -- a dialogue that shows the same stands where the other one did
  pub same_dialogue : (old new : Progress K) → Stands books knows has conn channel before text b old → Adds books knows has [] b b' old.report.receipts new.report.receipts
      → Changes old new 0 0 0 → Stands books knows has conn channel before text b' new
  same_dialogue old new s adds same =
      record {
        receipts = s.receipts ++ [];
        booked = adds.booked s.receipts s.booked;
        kept = adds.kept s.receipts s.kept;
        answers = s.answers;
        known = known_all s.answers (adds.known channel) s.known;
        tells = record {
          messages = s.tells.messages;
          booked = ap (map message_by) (append-nil s.receipts) ∙ s.tells.booked;
          unbooked = same.unbooked ∙ s.tells.unbooked;
          unreadable_ones = omega (arith, same.unreadable, s.tells.unreadable_ones);
          stray_ones = omega (arith, same.strays, s.tells.stray_ones);
          broken_ones = omega (arith, same.breaks, s.tells.broken_ones);
        };
        replies = rw same.bytes s.replies;
        made = same.made ∙ s.made;
      }

  -- an event that brings no message
  passed : (e : FramingEvent) (old new : Progress K) → Stands books knows has conn channel before text b old → Adds books knows has [] b b' old.report.receipts new.report.receipts
      → message_of e ≡ None → Changes old new (cond (is_unreadable_block e) 1 0) (cond (is_stray_block e) 1 0) (cond (is_break e) 1 0)
      → Stands books knows has conn channel (before ++ e ∷ []) text b' new
  passed e old new s adds none counted =
      record {
        receipts = s.receipts ++ [];
        booked = adds.booked s.receipts s.booked;
        kept = adds.kept s.receipts s.kept;
        answers = s.answers;
        known = known_all s.answers (adds.known channel) s.known;
        tells = record {
          messages = filter_map-append message_of before (e ∷ []) ∙ ap (λ o. filter_map message_of before ++ cons_option o []) none ∙ append-nil (filter_map message_of before) ∙ s.tells.messages;
          booked = ap (map message_by) (append-nil s.receipts) ∙ s.tells.booked;
          unbooked = counted.unbooked ∙ s.tells.unbooked;
          unreadable_ones = omega (arith, counted.unreadable, s.tells.unreadable_ones, count_one is_unreadable_block before e);
          stray_ones = omega (arith, counted.strays, s.tells.stray_ones, count_one is_stray_block before e);
          broken_ones = omega (arith, counted.breaks, s.tells.broken_ones, count_one is_break before e);
        };
        replies = rw counted.bytes s.replies;
        made = counted.made ∙ s.made;
      }

one_if : (b : Bool) → b ≡ true → ◌≡◌ {A = ℕ} (cond b 1 0) 1
one_if true is = refl
one_if false is = cc

none_if : (b : Bool) → b ≡ false → ◌≡◌ {A = ℕ} (cond b 1 0) 0
none_if true is = cc
none_if false is = refl

no_message_of : (raw : List ℕ) → is_bookable raw ≡ false → message_of (block raw) ≡ None
no_message_of raw is = rw is

module _ {B K : Type 0} {books : B → List Receipt → Type 0} {knows : B → ℕ → List ℕ → Type 0} {has : K → List Receipt → Type 0} {conn channel : ℕ} {before : List FramingEvent} {text : List ℕ} {b b' : B} where
  -- a block that is no message
  pub passed_unreadable : (raw : List ℕ) (old new : Progress K) → Stands books knows has conn channel before text b old → Adds books knows has [] b b' old.report.receipts new.report.receipts
      → IsNoMessage raw → Changes old new 1 0 0 → Stands books knows has conn channel (before ++ block raw ∷ []) text b' new
  passed_unreadable raw old new s adds is counted =
      let un = one_if (is_unreadable_block (block raw)) is.unreadable in
      let st = none_if (is_stray_block (block raw)) is.stray in
      passed (block raw) old new s adds (no_message_of raw is.bookable) (rw (un, st) counted)

  -- a block that is an acknowledgment
  pub passed_stray : (raw : List ℕ) (old new : Progress K) → Stands books knows has conn channel before text b old → Adds books knows has [] b b' old.report.receipts new.report.receipts
      → IsStrayText raw → is_bookable raw ≡ false → Changes old new 0 1 0 → Stands books knows has conn channel (before ++ block raw ∷ []) text b' new
  passed_stray raw old new s adds is unbookable counted =
      let un = none_if (is_unreadable_block (block raw)) is.unreadable in
      let st = one_if (is_stray_block (block raw)) is.stray in
      passed (block raw) old new s adds (no_message_of raw unbookable) (rw (un, st) counted)

  -- a broken block
  pub passed_break : (cause : Break) (old new : Progress K) → Stands books knows has conn channel before text b old → Adds books knows has [] b b' old.report.receipts new.report.receipts
      → Changes old new 0 0 1 → Stands books knows has conn channel (before ++ broken cause ∷ []) text b' new
  passed_break cause old new s adds counted = passed (broken cause) old new s adds refl counted

pub dues_one : (answers : List Answer) (a : Answer) → dues (answers ++ a ∷ []) ≡ dues answers ++ dues_of a
dues_one answers a = dues-append answers (a ∷ []) ∙ ap (λ l. dues answers ++ l) (append-nil (dues_of a))

length_both : (xs ys : List Due) → length (xs ++ ys) ≡ length xs + length ys
length_both [] ys = omega arith
length_both (x ∷ xs) ys = omega (arith, length_both xs ys)

-- the replies so far, and those of one more answer
replies_more : (conn made : ℕ) (answers : List Answer) (a : Answer) (text bytes added missing : List ℕ)
    → replies conn answers ≡ text ++ bytes → made ≡ length (dues answers) → numbered conn (made + 1) (dues_of a) ≡ added ++ missing
    → replies conn (answers ++ a ∷ []) ≡ text ++ ((bytes ++ added) ++ missing)
replies_more conn made answers a text bytes added missing before counted more =
    let place : 1 + length (dues answers) ≡ made + 1 = omega (arith, counted) in
    ap (numbered conn 1) (dues_one answers a)
    ∙ numbered-append conn 1 (dues answers) (dues_of a)
    ∙ ap (λ n. replies conn answers ++ numbered conn n (dues_of a)) place
    ∙ ap (λ l. replies conn answers ++ l) more
    ∙ ap (λ l. l ++ (added ++ missing)) before
    ∙ append_assoc text bytes (added ++ missing)
    ∙ ap (λ l. text ++ l) (sym (append_assoc bytes added missing))

-- a report that has one more message
pub record TellsOf {K : Type 0} (conn channel : ℕ) (a : Answer) (added : List Receipt) (old new : ServeReport K) : Type 0 where
  pub bookable : is_bookable a.raw ≡ true
  pub text : IsMessageText a.raw
  pub booked : map message_by added ≡ booked conn channel (a ∷ [])
  pub unbooked : new.unbooked ≡ old.unbooked + cond (is_err a.outcome) 1 0
  pub unreadable : new.unreadable ≡ old.unreadable
  pub strays : new.strays ≡ old.strays
  pub breaks : new.breaks ≡ old.breaks

tells_more : {K : Type 0} {conn channel : ℕ} {before : List FramingEvent} {answers : List Answer} {receipts added : List Receipt} (a : Answer) (old new : ServeReport K)
    → ReportsServing conn channel before answers receipts old → TellsOf conn channel a added old new
    → ReportsServing conn channel (before ++ block a.raw ∷ []) (answers ++ a ∷ []) (receipts ++ added) new
tells_more {K} {conn} {channel} {before} {answers} {receipts} {added} a old new s more =
    let no_unreadable = none_if (is_unreadable_block (block a.raw)) more.text.unreadable in
    let no_stray = none_if (is_stray_block (block a.raw)) more.text.stray in
    let brings : message_of (block a.raw) ≡ Some a.raw = rw more.bookable in
    record {
      messages =
          filter_map-append message_of before (block a.raw ∷ [])
          ∙ ap (λ o. filter_map message_of before ++ cons_option o []) brings
          ∙ ap (λ l. l ++ a.raw ∷ []) s.messages
          ∙ sym (map-append (λ (x : Answer). x.raw) answers (a ∷ []));
      booked =
          map-append message_by receipts added
          ∙ ap (λ l. map message_by receipts ++ l) more.booked
          ∙ ap (λ l. l ++ booked conn channel (a ∷ [])) s.booked
          ∙ sym (filter_map-append (λ (x : Answer). booked_with conn channel x.raw x.outcome) answers (a ∷ []));
      unbooked = omega (arith, more.unbooked, s.unbooked, count_one (λ (x : Answer). is_err x.outcome) answers a);
      unreadable_ones = omega (arith, more.unreadable, s.unreadable_ones, no_unreadable, count_one is_unreadable_block before (block a.raw));
      stray_ones = omega (arith, more.strays, s.stray_ones, no_stray, count_one is_stray_block before (block a.raw));
      broken_ones = omega (arith, more.breaks, s.broken_ones, count_one is_break before (block a.raw));
    }

module _ {B K : Type 0} {books : B → List Receipt → Type 0} {knows : B → ℕ → List ℕ → Type 0} {has : K → List Receipt → Type 0} {conn channel : ℕ} {before : List FramingEvent} {text : List ℕ} {b b' : B} {added : List Receipt}
    (a : Answer) (old new : Progress K) (s : Stands books knows has conn channel before text b old) (adds : Adds books knows has added b b' old.report.receipts new.report.receipts)
    (more : TellsOf conn channel a added old.report new.report) (known : IsKnownIfRepeated (knows b' channel) a) where
  -- a message that was answered
  pub answered : new.replies.made ≡ old.replies.made + length (dues_of a) → new.replies.bytes ≡ old.replies.bytes ++ numbered conn (old.replies.made + 1) (dues_of a)
      → Stands books knows has conn channel (before ++ block a.raw ∷ []) text b' new
  answered made grows =
      record {
        receipts = s.receipts ++ added;
        booked = adds.booked s.receipts s.booked;
        kept = adds.kept s.receipts s.kept;
        answers = s.answers ++ a ∷ [];
        known = known_more _ s.answers a (known_all s.answers (adds.known channel) s.known) known;
        tells = tells_more a old.report new.report s.tells more;
        replies =
            replies_more conn old.replies.made s.answers a text old.replies.bytes (numbered conn (old.replies.made + 1) (dues_of a)) [] s.replies s.made (sym (append-nil _))
            ∙ ap (λ l. text ++ l) (append-nil _ ∙ sym grows);
        made = omega (arith, made, s.made, ap length (dues_one s.answers a), length_both (dues s.answers) (dues_of a));
      }

  -- one whose replies are not all made
  pub answered_in_part : AppendsInPart conn (dues_of a) old.replies new.replies
      → StandsAmid books knows has conn channel before (block a.raw ∷ []) text b' new
  answered_in_part part =
      let whole : numbered conn (old.replies.made + 1) (dues_of a) ≡ numbered conn (old.replies.made + 1) (take part.count (dues_of a)) ++ numbered conn ((old.replies.made + 1) + length (take part.count (dues_of a))) (drop part.count (dues_of a)) =
      ap (numbered conn (old.replies.made + 1)) (sym (take-append-drop part.count (dues_of a))) ∙ numbered-append conn (old.replies.made + 1) (take part.count (dues_of a)) (drop part.count (dues_of a)) in
      record {
        handled = block a.raw ∷ [];
        later = [];
        whole = refl;
        receipts = s.receipts ++ added;
        booked = adds.booked s.receipts s.booked;
        kept = adds.kept s.receipts s.kept;
        answers = s.answers ++ a ∷ [];
        known = known_more _ s.answers a (known_all s.answers (adds.known channel) s.known) known;
        tells = tells_more a old.report new.report s.tells more;
        missing = numbered conn ((old.replies.made + 1) + length (take part.count (dues_of a))) (drop part.count (dues_of a));
        replies =
            replies_more conn old.replies.made s.answers a text old.replies.bytes _ _ s.replies s.made whole
            ∙ ap (λ l. text ++ (l ++ numbered conn ((old.replies.made + 1) + length (take part.count (dues_of a))) (drop part.count (dues_of a)))) (sym part.bytes);
      }

-- what the outcome of a block adds to the counters of a report
pub record Counts {K : Type 0} (o : BlockOutcome) (old new : ServeReport K) : Type 0 where
  pub unbooked : new.unbooked ≡ old.unbooked + unbooked_in o
  pub unreadable : new.unreadable ≡ old.unreadable + unreadable_in o
  pub strays : new.strays ≡ old.strays + strays_in o
  pub breaks : new.breaks ≡ old.breaks

-- a report that counts a message has one more
one_message : {K : Type 0} (conn channel : ℕ) (raw : List ℕ) (moment : ℕ) (b : Booked) (old new : ServeReport K) → IsOutcome conn channel raw (Message b) → Counts (Message b) old new
    → TellsOf conn channel (answer_to raw b.outcome moment) (receipts_in (Message b)) old new
one_message conn channel raw moment b old new is counts =
    record {
      bookable = is.0;
      text = bookable_text raw is.0;
      booked = message_of_receipt conn channel raw moment b.outcome is.1;
      unbooked = unbooked_is b.outcome old.unbooked new.unbooked counts.unbooked;
      unreadable = omega (arith, counts.unreadable);
      strays = omega (arith, counts.strays);
      breaks = counts.breaks;
    }

module _ {B K : Type 0} {books : B → List Receipt → Type 0} {knows : B → ℕ → List ℕ → Type 0} {has : K → List Receipt → Type 0} {conn channel : ℕ} {before : List FramingEvent} {text : List ℕ} {b b' : B}
    (raw : List ℕ) (moment : ℕ) (old new : Progress K) (s : Stands books knows has conn channel before text b old) where
  -- a block that was answered
  pub block_answered : (o : BlockOutcome) → IsOutcome conn channel raw o → Adds books knows has (receipts_in o) b b' old.report.receipts new.report.receipts → Counts o old.report new.report → KnowsRepeat (knows b' channel raw) o
      → new.replies.made ≡ old.replies.made + length (dues_in raw moment o) → new.replies.bytes ≡ old.replies.bytes ++ numbered conn (old.replies.made + 1) (dues_in raw moment o)
      → Stands books knows has conn channel (before ++ block raw ∷ []) text b' new
  block_answered Unreadable is adds counts known made bytes =
      passed_unreadable raw old new s adds (unreadable_text raw is) (record {
        unbooked = omega (arith, counts.unbooked);
        unreadable = counts.unreadable;
        strays = counts.strays;
        breaks = omega (arith, counts.breaks);
        made = omega (arith, made);
        bytes = bytes ∙ append-nil _;
      })
  block_answered Stray is adds counts repeat made bytes =
      let known = stray_known raw is in
      passed_stray raw old new s adds known.0 known.1 (record {
        unbooked = omega (arith, counts.unbooked);
        unreadable = counts.unreadable;
        strays = counts.strays;
        breaks = omega (arith, counts.breaks);
        made = omega (arith, made);
        bytes = bytes ∙ append-nil _;
      })
  block_answered (Message m) is adds counts known made bytes =
      answered (answer_to raw m.outcome moment) old new s adds (one_message conn channel raw moment m old.report new.report is counts) (known_told (knows b' channel) raw moment m.outcome known) made bytes

  -- one whose replies are not all made
  pub block_answered_in_part : (o : BlockOutcome) → IsOutcome conn channel raw o → Adds books knows has (receipts_in o) b b' old.report.receipts new.report.receipts → Counts o old.report new.report → KnowsRepeat (knows b' channel raw) o
      → is_whole o ≡ false → AppendsInPart conn (dues_in raw moment o) old.replies new.replies
      → StandsAmid books knows has conn channel before (block raw ∷ []) text b' new
  block_answered_in_part Unreadable is adds counts known part front = cc
  block_answered_in_part Stray is adds counts known part front = cc
  block_answered_in_part (Message m) is adds counts known part front =
      answered_in_part (answer_to raw m.outcome moment) old new s adds (one_message conn channel raw moment m old.report new.report is counts) (known_told (knows b' channel) raw moment m.outcome known) front

pub on_err_always : {T E : Type 0} {P : Type 0} (r : Result T E) → P → OnErr r P
on_err_always (Ok x) p = tt
on_err_always (Err e) p = p

pub on_ok_two : {T E : Type 0} {P Q S : Type 0} (r : Result T E) → (P → Q → S) → OnOk r P → OnOk r Q → OnOk r S
on_ok_two (Ok x) f p q = f p q
on_ok_two (Err e) f p q = tt

pub on_err_one : {T E : Type 0} {P S : Type 0} (r : Result T E) → (P → S) → OnErr r P → OnErr r S
on_err_one (Ok x) f p = tt
on_err_one (Err e) f p = f p

-- nothing of these events was handled
pub none_handled : {B K : Type 0} {books : B → List Receipt → Type 0} {knows : B → ℕ → List ℕ → Type 0} {has : K → List Receipt → Type 0} {conn channel : ℕ} {before events : List FramingEvent} {text : List ℕ} {b : B} {t : Progress K}
    → Stands books knows has conn channel before text b t → StandsAmid books knows has conn channel before events text b t
none_handled {B} {K} {books} {has} {conn} {channel} {before} {events} {text} {b} {t} s =
    record {
      handled = [];
      later = events;
      whole = refl;
      receipts = s.receipts;
      booked = s.booked;
      kept = s.kept;
      answers = s.answers;
      known = s.known;
      tells = rw append-nil s.tells;
      missing = [];
      replies = s.replies ∙ ap (λ l. text ++ l) (sym (append-nil t.replies.bytes));
    }

-- a test as a number
pub from_bool : (old n : ℕ) (b c : Bool) → n ≡ bool_byte b → b ≡ c → old + n ≡ old + cond c 1 0
from_bool old n true c h e = cc
from_bool old n false c h e = cc

module _ {B K : Type 0} {books : B → B → List Receipt → Type 0} {knows : B → ℕ → List ℕ → Type 0} {has : K → List Receipt → Type 0} {conn channel : ℕ} {b b' b'' : B} where
  -- one more event, and then those that are left
  pub handled_more : {handled : List FramingEvent} {e : FramingEvent} {first old new : Progress K} → HandlesAll books knows has conn channel handled b b' first old → HandlesAll books knows has conn channel (e ∷ []) b' b'' old new
      → HandlesAll books knows has conn channel (handled ++ e ∷ []) b b'' first new
  handled_more {handled} {e} all one from before text s =
      rw (sym (append_assoc before handled (e ∷ []))) (one from (before ++ handled) text (all from before text s))

  pub handled_front : {handled left : List FramingEvent} {first old new : Progress K} → HandlesAll books knows has conn channel handled b b' first old → HandlesFront books knows has conn channel left b' b'' old new
      → HandlesFront books knows has conn channel (handled ++ left) b b'' first new
  handled_front {handled} {left} all front from before text s =
      let f = front from (before ++ handled) text (all from before text s) in
      record {
        handled = handled ++ f.handled;
        later = f.later;
        whole = ap (λ l. handled ++ l) f.whole ∙ sym (append_assoc handled f.handled f.later);
        receipts = f.receipts;
        booked = f.booked;
        kept = f.kept;
        answers = f.answers;
        known = f.known;
        tells = rw (sym (append_assoc before handled f.handled)) f.tells;
        missing = f.missing;
        replies = f.replies;
      }

module _ {B K : Type 0} {books : B → B → List Receipt → Type 0} {knows : B → ℕ → List ℕ → Type 0} {has : K → List Receipt → Type 0} {conn channel : ℕ} {b b' : B} where
  -- the same where more events are left
  pub front_of_more : {some all : List FramingEvent} {old new : Progress K} (more : List FramingEvent) → HandlesFront books knows has conn channel some b b' old new → all ≡ some ++ more → HandlesFront books knows has conn channel all b b' old new
  front_of_more {some} {all} more front is from before text s =
      let f = front from before text s in
      record {
        handled = f.handled;
        later = f.later ++ more;
        whole = is ∙ ap (λ l. l ++ more) f.whole ∙ append_assoc f.handled f.later more;
        receipts = f.receipts;
        booked = f.booked;
        kept = f.kept;
        answers = f.answers;
        known = f.known;
        tells = f.tells;
        missing = f.missing;
        replies = f.replies;
      }

  -- where handling stops between two events
  pub stop_between : {handled all : List FramingEvent} {first old : Progress K} (left : List FramingEvent) → HandlesAll books knows has conn channel handled b b' first old → all ≡ handled ++ left → HandlesFront books knows has conn channel all b b' first old
  stop_between {handled} left all_handled is from before text s =
      let t = all_handled from before text s in
      record {
        handled = handled;
        later = left;
        whole = is;
        receipts = t.receipts;
        booked = t.booked;
        kept = t.kept;
        answers = t.answers;
        known = t.known;
        tells = t.tells;
        missing = [];
        replies = t.replies ∙ ap (λ l. text ++ l) (sym (append-nil _));
      }

module _ {B K : Type 0} (books : B → B → List Receipt → Type 0) (knows : B → ℕ → List ℕ → Type 0) (has : K → List Receipt → Type 0) {conn channel : ℕ} {b b' : B} where
  -- handled in whole or in part
  pub either_way : {T E : Type 0} {events : List FramingEvent} {old new : Progress K} (r : Result T E) → OnOk r (HandlesAll books knows has conn channel events b b' old new) → OnErr r (HandlesFront books knows has conn channel events b b' old new)
      → HandlesFront books knows has conn channel events b b' old new
  either_way {T} {E} {events} (Ok x) all front = stop_between [] all (sym (append-nil events))
  either_way (Err e) all front = front

-- the first event, taken away
pub first_event : (events : List FramingEvent) (e : FramingEvent) → Some e ≡ slice_get events 0 → events ≡ e ∷ drop 1 events
first_event [] e h = cc
first_event (x ∷ es) e h = cc
