-- One more piece of a stream.
use Rattle.std.proofs.Common.{◌≡◌, ◌≢◌, ℕ, List, [], ◌++◌, Option, Result, Ok, Err, OnErr, IfErr, refl, sym, ap, subst, ◌∙◌, append_assoc, append-nil}
use Rattle.std.specs.Io.KnownBytes.{Consumes, Appends, IsAtEnd}
use Rattle.std.proofs.KnownBytes.{Consumes-nil, Consumes-trans, Appends-nil, Appends-trans}
use Rattle.book_core.specs.declared.receipt.Receipt.{Receipt}
use Rattle.mllp_frame.specs.Event.{FramingEvent}
use Rattle.mllp_frame.specs.inner.Framed.{Framed, fed}
use Rattle.mllp_frame.specs.Framing.{blocks}
use Rattle.mllp_frame.specs.inner.Framing.{open_end}
use Rattle.conn_worker.specs.declared.report.ServeEnd.{ServeEnd}
use Rattle.conn_worker.specs.declared.report.ServeEnd.TheVariants.{End, ReadFault, WriteFault, NoMemory, TurnBound, NotPersisted}
use Rattle.conn_worker.specs.declared.report.ServeReport.{ServeReport}
use Rattle.conn_worker.specs.declared.dialogue.Progress.{Progress}
use Rattle.conn_core.specs.Replies.{Answer}
use Rattle.conn_worker.specs.Serving.{ReportsServing, ServesAndBooks}
use Rattle.conn_worker.proofs.Growing.{known_all}
use Rattle.conn_worker.specs.declared.session.Session.{Session}
use Rattle.conn_worker.specs.inner.Session.{IsFresh, SoFar}
use Rattle.conn_worker.specs.inner.Stream.{StopsReading, StopsWriting}
use Rattle.conn_worker.specs.inner.Handling.{HandlesAll, HandlesFront, StopsHandling}

-- What a longer stream holds, as the laws of framing say it.
pub record StreamLaws : Type 0 where
  pub blocks_are : (s more : List ℕ) → blocks (s ++ more) ≡ blocks s ++ blocks (open_end s ++ more)
  pub end_is : (s more : List ℕ) → open_end (s ++ more) ≡ open_end (open_end s ++ more)

-- how serving ended is no part of what is told
tells_end : {K : Type 0} {conn channel : ℕ} {events : List FramingEvent} {answers : List Answer} {receipts : List Receipt} (r : ServeReport K) (end : ServeEnd) → ReportsServing conn channel events answers receipts r
    → ReportsServing conn channel events answers receipts (record r { end = end })
tells_end r end s =
    record {
      messages = s.messages;
      booked = s.booked;
      unbooked = s.unbooked;
      unreadable_ones = s.unreadable_ones;
      stray_ones = s.stray_ones;
      broken_ones = s.broken_ones;
    }

-- no further piece was read
pub ends_here : {B K : Type 0} {books : B → List Receipt → Type 0} {knows : B → ℕ → List ℕ → Type 0} {has : K → List Receipt → Type 0} {conn channel : ℕ} {to_read left held holds : Option (List ℕ)} {b : B} {z : Session K}
    (left' : Option (List ℕ)) (end : ServeEnd) → SoFar books knows has conn channel to_read left held holds b z
    → Consumes left left' [] → (end ≡ End → IsAtEnd left') → ServesAndBooks (books b) (knows b channel) has conn channel to_read left' held holds (record z.dialogue.report { end = end })
ends_here {B} {K} {books} {has} {conn} {channel} {to_read} {left} {held} {holds} {b} {z} left' end s reads at_end =
    record {
      receipts = s.stands.receipts;
      serves = record {
        read = s.read;
        reads = let r = Consumes-trans to_read left left' s.read [] s.reads reads in rw append-nil at r;
        handled = blocks s.read;
        later = [];
        events = sym (append-nil (blocks s.read));
        answers = s.stands.answers;
        known = s.stands.known;
        tells = tells_end z.dialogue.report end s.stands.tells;
        written = s.written;
        unwritten = [];
        replies = s.stands.replies ∙ ap (λ l. s.written ++ l) s.all_written;
        wrote = s.wrote;
        whole = λ e. (at_end e, refl, refl);
      };
      booked = s.stands.booked;
      kept = s.stands.kept;
    }

module _ {B K : Type 0} (books : B → B → List Receipt → Type 0) {knows : B → ℕ → List ℕ → Type 0} {has : K → List Receipt → Type 0} {first b b' : B} (laws : StreamLaws) where
  -- a piece was read, the first of its events handled, and the front of their replies written
  pub ends_amid : {conn channel : ℕ} {to_read left held holds : Option (List ℕ)} {z : Session K} (left' holds' : Option (List ℕ)) (t' : Progress K) (end : ServeEnd) (piece written unwritten : List ℕ)
      → SoFar (books first) knows has conn channel to_read left held holds b z
      → Consumes left left' piece → HandlesFront books knows has conn channel (blocks (z.framer.open_end ++ piece)) b b' z.dialogue t'
      → t'.replies.bytes ≡ written ++ unwritten → Appends holds holds' written → end ≢ End
      → ServesAndBooks (books first b') (knows b' channel) has conn channel to_read left' held holds' (record t'.report { end = end })
  ends_amid {conn} {channel} {to_read} {left} {held} {holds} {z} left' holds' t' end piece written unwritten s reads front bytes_are wrote other =
      let a = front first (blocks s.read) s.written s.stands in
      record {
        receipts = a.receipts;
        serves = record {
          read = s.read ++ piece;
          reads = Consumes-trans to_read left left' s.read piece s.reads reads;
          handled = blocks s.read ++ a.handled;
          later = a.later;
          events =
              laws.blocks_are s.read piece
              ∙ ap (λ l. blocks s.read ++ blocks (l ++ piece)) (sym s.left_open)
              ∙ ap (λ l. blocks s.read ++ l) a.whole
              ∙ sym (append_assoc (blocks s.read) a.handled a.later);
          answers = a.answers;
          known = a.known;
          tells = tells_end t'.report end a.tells;
          written = s.written ++ written;
          unwritten = unwritten ++ a.missing;
          replies =
              a.replies
              ∙ ap (λ l. s.written ++ (l ++ a.missing)) bytes_are
              ∙ ap (λ l. s.written ++ l) (append_assoc written unwritten a.missing)
              ∙ sym (append_assoc s.written written (unwritten ++ a.missing));
          wrote = Appends-trans held holds holds' s.written written s.wrote wrote;
          whole = λ e. absurd (other e);
        };
        booked = a.booked;
        kept = a.kept;
      }

  -- a piece was read, its events handled, and all their replies written
  pub goes_on : {conn channel : ℕ} {to_read left held holds : Option (List ℕ)} {z : Session K} (left' holds' : Option (List ℕ)) (t' : Progress K) (z'' : Session K) (piece : List ℕ)
      → SoFar (books first) knows has conn channel to_read left held holds b z
      → Consumes left left' piece → HandlesAll books knows has conn channel (blocks (z.framer.open_end ++ piece)) b b' z.dialogue t'
      → Appends holds holds' t'.replies.bytes → z''.framer.to_come ≡ [] → z''.framer.open_end ≡ open_end (z.framer.open_end ++ piece)
      → z''.dialogue.report ≡ t'.report → z''.dialogue.replies.made ≡ t'.replies.made → z''.dialogue.replies.bytes ≡ []
      → SoFar (books first) knows has conn channel to_read left' held holds' b' z''
  goes_on {conn} {channel} {to_read} {left} {held} {holds} {z} left' holds' t' z'' piece s reads all wrote none_left end_is report_is made_is cleared =
      let a = all first (blocks s.read) s.written s.stands in
      let events : blocks (s.read ++ piece) ≡ blocks s.read ++ blocks (z.framer.open_end ++ piece) = laws.blocks_are s.read piece ∙ ap (λ l. blocks s.read ++ blocks (l ++ piece)) (sym s.left_open) in
      record {
        read = s.read ++ piece;
        reads = Consumes-trans to_read left left' s.read piece s.reads reads;
        none_left = none_left;
        left_open = end_is ∙ ap (λ l. open_end (l ++ piece)) s.left_open ∙ sym (laws.end_is s.read piece);
        written = s.written ++ t'.replies.bytes;
        wrote = Appends-trans held holds holds' s.written t'.replies.bytes s.wrote wrote;
        stands = record {
          receipts = a.receipts;
          booked = a.booked;
          kept = rw report_is a.kept;
          answers = a.answers;
          known = a.known;
          tells = rw (events, report_is) a.tells;
          replies = a.replies ∙ sym (append-nil (s.written ++ t'.replies.bytes)) ∙ ap (λ l. (s.written ++ t'.replies.bytes) ++ l) (sym cleared);
          made = made_is ∙ a.made;
        };
        all_written = cleared;
      }

pub fed_events : (f f' : Framed) (piece : List ℕ) → f' ≡ fed f piece → f.to_come ≡ [] → f'.to_come ≡ blocks (f.open_end ++ piece)
fed_events f f' piece is none = ap (λ (x : Framed). x.to_come) is ∙ ap (λ l. l ++ blocks (f.open_end ++ piece)) none

pub writing_other : (end : ServeEnd) (a b : ℕ) → StopsWriting end a b → end ≢ End
writing_other End a b h e = h
writing_other ReadFault a b h e = h
writing_other WriteFault a b h e = cc
writing_other NoMemory a b h e = h
writing_other TurnBound a b h e = cc
writing_other NotPersisted a b h e = cc

pub handling_other : (end : ServeEnd) → StopsHandling end → end ≢ End
handling_other End h e = h
handling_other ReadFault h e = h
handling_other WriteFault h e = h
handling_other NoMemory h e = cc
handling_other TurnBound h e = cc
handling_other NotPersisted h e = h

-- nothing was booked after events were handled
pub handled_then : {B K : Type 0} (books : B → B → List Receipt → Type 0) {knows : B → ℕ → List ℕ → Type 0} {has : K → List Receipt → Type 0} {conn channel : ℕ} {events : List FramingEvent} {b b' b'' : B} {t t' : Progress K}
    → ((x y z : B) (rs ss : List Receipt) → books x y rs → books y z ss → books x z (rs ++ ss)) → books b' b'' [] → ((channel : ℕ) (raw : List ℕ) → knows b' channel raw → knows b'' channel raw)
    → HandlesAll books knows has conn channel events b b' t t' → HandlesAll books knows has conn channel events b b'' t t'
handled_then books {channel = channel} {b' = b'} {b'' = b''} after none still all first before text s =
    let a = all first before text s in
    record {
      receipts = a.receipts;
      booked = subst (λ (l : List Receipt). books first b'' l) (append-nil a.receipts) (after first b' b'' a.receipts [] a.booked none);
      kept = a.kept;
      answers = a.answers;
      known = known_all a.answers (still channel) a.known;
      tells = a.tells;
      replies = a.replies;
      made = a.made;
    }

-- the same where the first of them were handled
pub handled_front_then : {B K : Type 0} (books : B → B → List Receipt → Type 0) {knows : B → ℕ → List ℕ → Type 0} {has : K → List Receipt → Type 0} {conn channel : ℕ} {events : List FramingEvent} {b b' b'' : B} {t t' : Progress K}
    → ((x y z : B) (rs ss : List Receipt) → books x y rs → books y z ss → books x z (rs ++ ss)) → books b' b'' [] → ((channel : ℕ) (raw : List ℕ) → knows b' channel raw → knows b'' channel raw)
    → HandlesFront books knows has conn channel events b b' t t' → HandlesFront books knows has conn channel events b b'' t t'
handled_front_then books {channel = channel} {b' = b'} {b'' = b''} after none still front first before text s =
    let a = front first before text s in
    record {
      handled = a.handled;
      later = a.later;
      whole = a.whole;
      receipts = a.receipts;
      booked = subst (λ (l : List Receipt). books first b'' l) (append-nil a.receipts) (after first b' b'' a.receipts [] a.booked none);
      kept = a.kept;
      answers = a.answers;
      known = known_all a.answers (still channel) a.known;
      tells = a.tells;
      missing = a.missing;
      replies = a.replies;
    }

pub reading_end : (end : ServeEnd) (left : Option (List ℕ)) (a b : ℕ) → StopsReading end left a b → end ≡ End → IsAtEnd left
reading_end end left a b h e = rw e at h

pub if_err_two : {T E P : Type 0} {Q S : E → Type 0} (r : Result T E) → ((e : E) → P → Q e → S e) → OnErr r P → IfErr r Q → IfErr r S
if_err_two (Ok x) f p q = tt
if_err_two (Err e) f p q = f e p q

-- at the start nothing is read
pub starts : {B K : Type 0} {books : B → List Receipt → Type 0} {knows : B → ℕ → List ℕ → Type 0} {has : K → List Receipt → Type 0} (conn channel : ℕ) (to_read held : Option (List ℕ)) (b : B) (z : Session K) → IsFresh has z → books b []
    → SoFar books knows has conn channel to_read to_read held held b z
starts conn channel to_read held b z fresh none =
    let new = fresh.dialogue in
    record {
      read = [];
      reads = Consumes-nil to_read;
      none_left = ap (λ (f : Framed). f.to_come) fresh.framer;
      left_open = ap (λ (f : Framed). f.open_end) fresh.framer;
      written = [];
      wrote = Appends-nil held;
      stands = record {
        receipts = [];
        booked = none;
        kept = new.receipts;
        answers = [];
        known = tt;
        tells = record { messages = refl; booked = refl; unbooked = new.unbooked; unreadable_ones = new.unreadable_ones; stray_ones = new.stray_ones; broken_ones = new.broken_ones };
        replies = sym new.bytes;
        made = new.made;
      };
      all_written = new.bytes;
    }

-- nothing was read, and nothing handled
pub serves_nothing : {K : Type 0} {books : List Receipt → Type 0} {knows : List ℕ → Type 0} {has : K → List Receipt → Type 0} (conn channel : ℕ) (to_read held : Option (List ℕ)) (r : ServeReport K) → has r.receipts [] → books []
    → r.unbooked ≡ 0 → r.unreadable ≡ 0 → r.strays ≡ 0 → r.breaks ≡ 0 → r.end ≢ End → ServesAndBooks books knows has conn channel to_read to_read held held r
serves_nothing conn channel to_read held r receipts none unbooked un st br other =
    record {
      receipts = [];
      serves = record {
        read = [];
        reads = Consumes-nil to_read;
        handled = [];
        later = [];
        events = refl;
        answers = [];
        known = tt;
        tells = record { messages = refl; booked = refl; unbooked = unbooked; unreadable_ones = un; stray_ones = st; broken_ones = br };
        written = [];
        unwritten = [];
        replies = refl;
        wrote = Appends-nil held;
        whole = λ e. absurd (other e);
      };
      booked = none;
      kept = receipts;
    }
