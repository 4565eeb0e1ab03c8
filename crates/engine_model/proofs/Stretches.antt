-- Pieces and runs, one behind the other.
use Rattle.std.proofs.Common.{◌≡◌, ℕ, zero, suc, ◌+◌, Bool, true, false, List, [], ◌∷◌, ◌++◌, length, map, set, slice_get, Option, None, Some, inl, inr, refl, sym, ap, ◌∙◌, subst, append_assoc}
use Rattle.std.proofs.lemmas.List.{map-append}
use Rattle.event_log.specs.History.{History}
use Rattle.conn_core.specs.Messages.{messages}
use Rattle.conn_core.specs.Replies.{Answer, dues, numbered}
use Rattle.conn_core.proofs.Numbering.{numbered-append}
use Rattle.engine_model.specs.Run.{Connection, Run}
use Rattle.engine_model.specs.Turn.{Turn, chunk}
use Rattle.engine_model.specs.Steps.{AreAnswered, EndsWithin, Hears, HearsAt, HearsIf, ReadsOn, RepliesFront, Runs, Steps, after_answer, after_answers}
use Rattle.engine_model.proofs.Amidst.{next_number, sent_more}
use Rattle.engine_model.proofs.Duly.{dues-append}
use Rattle.engine_model.proofs.Places.{get-set_same}

abbrev raws : List Answer → List (List ℕ)
raws answers = map (λ (a : Answer). a.raw) answers

-- ---- answers behind answers

after_answers-append : (conn channel : ℕ) (h : History) (xs ys : List Answer) → after_answers conn channel h (xs ++ ys) ≡ after_answers conn channel (after_answers conn channel h xs) ys
after_answers-append conn channel h [] ys = refl
after_answers-append conn channel h (x ∷ xs) ys = after_answers-append conn channel (after_answer conn channel h x) xs ys

answered-append : (conn channel now : ℕ) (h : History) (xs ys : List Answer) → AreAnswered conn channel now h xs → AreAnswered conn channel now (after_answers conn channel h xs) ys → AreAnswered conn channel now h (xs ++ ys)
answered-append conn channel now h [] ys one two = two
answered-append conn channel now h (x ∷ xs) ys one two = (one.0, one.1, answered-append conn channel now (after_answer conn channel h x) xs ys one.2 two)

-- ---- a piece behind a piece

module _ (conn : ℕ) (xs ys : List ℕ) (now : ℕ) (h g h' : History) (c d e : Connection) where
  -- a piece that is read on, and the answers to another behind it
  module _ (s : ReadsOn conn xs now h g c d) (new : List Answer) where
    both-answered : AreAnswered conn d.channel now g new → AreAnswered conn c.channel now h (s.new ++ new)
    both-answered answered =
        answered-append conn c.channel now h s.new new s.answered
        (subst (λ k. AreAnswered conn k now (after_answers conn c.channel h s.new) new) s.channel
        (subst (λ k. AreAnswered conn d.channel now k new) s.booked answered))

    both-booked : h' ≡ after_answers conn d.channel g new → h' ≡ after_answers conn c.channel h (s.new ++ new)
    both-booked booked =
        booked ∙ ap (λ k. after_answers conn k g new) s.channel ∙ ap (λ k. after_answers conn c.channel k new) s.booked
        ∙ sym (after_answers-append conn c.channel h s.new new)

    both-stream : (kept : List ℕ) → e.stream ≡ d.stream ++ kept → e.stream ≡ c.stream ++ (xs ++ kept)
    both-stream kept stream = stream ∙ ap (λ l. l ++ kept) s.stream ∙ append_assoc c.stream xs kept

    both-answers : e.answers ≡ d.answers ++ new → e.answers ≡ c.answers ++ (s.new ++ new)
    both-answers answers = answers ∙ ap (λ l. l ++ new) s.answers ∙ append_assoc c.answers s.new new

    both-once : (others : List (List ℕ)) → messages e.stream ≡ messages d.stream ++ (raws new ++ others) → messages e.stream ≡ messages c.stream ++ (raws (s.new ++ new) ++ others)
    both-once others once =
        once ∙ ap (λ l. l ++ (raws new ++ others)) s.each_once ∙ append_assoc (messages c.stream) (raws s.new) (raws new ++ others)
        ∙ ap (λ l. messages c.stream ++ l) (sym (append_assoc (raws s.new) (raws new) others) ∙ ap (λ l. l ++ others) (sym (map-append (λ (a : Answer). a.raw) s.new new)))

  reads-reads : ReadsOn conn xs now h g c d → ReadsOn conn ys now g h' d e → ReadsOn conn (xs ++ ys) now h h' c e
  reads-reads s t =
      record {
        new = s.new ++ t.new;
        answered = both-answered s t.new t.answered;
        booked = both-booked s t.new t.booked;
        channel = t.channel ∙ s.channel;
        stream = both-stream s t.new ys t.stream;
        answers = both-answers s t.new t.answers;
        each_once =
            t.each_once ∙ ap (λ l. l ++ raws t.new) s.each_once ∙ append_assoc (messages c.stream) (raws s.new) (raws t.new)
            ∙ ap (λ l. messages c.stream ++ l) (sym (map-append (λ (a : Answer). a.raw) s.new t.new));
        output =
            t.output ∙ sent_more conn c s.new d (dues t.new) s.answers s.output
            ∙ ap (λ l. c.output ++ numbered conn (1 + length (dues c.answers)) l) (sym (dues-append s.new t.new));
        stays = t.stays;
        within = t.within;
      }

  module _ (s : ReadsOn conn xs now h g c d) (t : EndsWithin conn ys now g h' d e) where
    abbrev first : ℕ
    first = 1 + length (dues c.answers)

    abbrev front : RepliesFront conn (1 + length (dues d.answers)) t.new t.added
    front = t.replies

    both-front : RepliesFront conn first (s.new ++ t.new) (numbered conn first (dues s.new) ++ t.added)
    both-front =
        record {
          replied = s.new ++ front.replied;
          last = front.last;
          all = ap (λ l. s.new ++ l) front.all ∙ sym (append_assoc s.new front.replied front.last);
          one = front.one;
          sent = front.sent;
          unsent = front.unsent;
          due = front.due;
          text_is =
              ap (λ l. numbered conn first (dues s.new) ++ l)
              (front.text_is ∙ ap (λ n. numbered conn n (dues front.replied ++ front.sent)) (next_number conn c s.new d s.answers))
              ∙ sym (numbered-append conn first (dues s.new) (dues front.replied ++ front.sent))
              ∙ ap (numbered conn first) (sym (append_assoc (dues s.new) (dues front.replied) front.sent) ∙ ap (λ l. l ++ front.sent) (sym (dues-append s.new front.replied)));
        }

    reads-ends : EndsWithin conn (xs ++ ys) now h h' c e
    reads-ends =
        record {
          new = s.new ++ t.new;
          answered = both-answered s t.new t.answered;
          booked = both-booked s t.new t.booked;
          channel = t.channel ∙ s.channel;
          kept = xs ++ t.kept;
          lost = t.lost;
          piece = ap (λ l. xs ++ l) t.piece ∙ sym (append_assoc xs t.kept t.lost);
          stream = both-stream s t.new t.kept t.stream;
          answers = both-answers s t.new t.answers;
          unanswered = t.unanswered;
          in_order = both-once s t.new t.unanswered t.in_order;
          added = numbered conn first (dues s.new) ++ t.added;
          output = t.output ∙ ap (λ l. l ++ t.added) s.output ∙ append_assoc c.output (numbered conn first (dues s.new)) t.added;
          replies = both-front;
          stops = t.stops;
        }

-- a connection that has ended loses what comes behind
ends-lost : (conn : ℕ) (xs ys : List ℕ) (now : ℕ) (h g : History) (c d : Connection) → EndsWithin conn xs now h g c d → EndsWithin conn (xs ++ ys) now h g c d
ends-lost conn xs ys now h g c d s =
    record {
      new = s.new;
      answered = s.answered;
      booked = s.booked;
      channel = s.channel;
      kept = s.kept;
      lost = s.lost ++ ys;
      piece = ap (λ l. l ++ ys) s.piece ∙ append_assoc s.kept s.lost ys;
      stream = s.stream;
      answers = s.answers;
      unanswered = s.unanswered;
      in_order = s.in_order;
      added = s.added;
      output = s.output;
      replies = s.replies;
      stops = s.stops;
    }

set-set : {A : Type 0} (xs : List A) (i : ℕ) (x y : A) → set (set xs i x) i y ≡ set xs i y
set-set [] i x y = refl
set-set (z ∷ xs) zero x y = refl
set-set (z ∷ xs) (suc i) x y = ap (λ l. z ∷ l) (set-set xs i x y)

module _ (conn : ℕ) (xs ys : List ℕ) (now : ℕ) (r p r' : Run) where
  module _ (c : Connection) (at : slice_get r.connections conn ≡ Some c) (one : Hears conn xs now r p c) where
    next-at : slice_get p.connections conn ≡ Some one.to
    next-at = ap (λ l. slice_get l conn) one.only ∙ get-set_same r.connections conn c one.to at

    next-open : one.to.ended ≡ false → ReadsOn conn xs now r.history p.history c one.to → Hears conn ys now p r' one.to → Hears conn (xs ++ ys) now r r' c
    next-open stays s two =
        record {
          to = two.to;
          only = two.only ∙ ap (λ l. set l conn two.to) one.only ∙ set-set r.connections conn one.to two.to;
          stays = two.stays ∙ one.stays;
          does = elim two.does [
            | inl t ↦ inl (reads-reads conn xs ys now r.history p.history r'.history c one.to two.to s t)
            | inr t ↦ inr (reads-ends conn xs ys now r.history p.history r'.history c one.to two.to s t)
          ];
        }

    next-ended : EndsWithin conn xs now r.history p.history c one.to → r' ≡ p → Hears conn (xs ++ ys) now r r' c
    next-ended s two =
        record {
          to = one.to;
          only = ap (λ (q : Run). q.connections) two ∙ one.only;
          stays = ap (λ (q : Run). q.folded) two ∙ one.stays;
          does = inr (subst (λ (q : Run). EndsWithin conn (xs ++ ys) now r.history q.history c one.to) (sym two) (ends-lost conn xs ys now r.history p.history c one.to s));
        }

    next : HearsIf one.to.ended conn ys now p r' one.to → Hears conn (xs ++ ys) now r r' c
    next two =
        elim one.does [
          | inl s ↦ next-open s.stays s (subst (λ b. HearsIf b conn ys now p r' one.to) s.stays two)
          | inr s ↦ next-ended s (subst (λ b. HearsIf b conn ys now p r' one.to) s.stops two)
        ]

  -- nothing came of the first
  unmoved : (o : Option Connection) → slice_get r.connections conn ≡ o → p ≡ r → HearsAt (slice_get p.connections conn) conn ys now p r' → HearsAt o conn ys now r r'
  unmoved o at one two =
      subst (λ o. HearsAt o conn ys now r r') at (subst (λ (q : Run). HearsAt (slice_get q.connections conn) conn ys now q r') one two)

  if-heard : (c : Connection) (b : Bool) → slice_get r.connections conn ≡ Some c → c.ended ≡ b → HearsIf b conn xs now r p c → HearsAt (slice_get p.connections conn) conn ys now p r' → HearsIf b conn (xs ++ ys) now r r' c
  if-heard c true at ended one two = subst (λ b. HearsIf b conn ys now r r' c) ended (unmoved (Some c) at one two)
  if-heard c false at ended one two = next c at one (subst (λ o. HearsAt o conn ys now p r') (next-at c at one) two)

  heard-at : (o : Option Connection) → slice_get r.connections conn ≡ o → HearsAt o conn xs now r p → HearsAt (slice_get p.connections conn) conn ys now p r' → HearsAt o conn (xs ++ ys) now r r'
  heard-at None at one two = unmoved None at one two
  heard-at (Some c) at one two = if-heard c c.ended at refl one two

-- two pieces at one moment do what the piece may do that they make
pub pieces-joined : (conn : ℕ) (xs ys : List ℕ) (now : ℕ) (r between r' : Run) → Steps (chunk conn xs now) r between → Steps (chunk conn ys now) between r' → Steps (chunk conn (xs ++ ys) now) r r'
pieces-joined conn xs ys now r between r' one two = heard-at conn xs ys now r between r' (slice_get r.connections conn) refl one two

-- ---- a run behind a run

pub runs-cut : (xs ys : List Turn) (r r' : Run) → Runs (xs ++ ys) r r' → (between : Run) × Runs xs r between × Runs ys between r'
runs-cut [] ys r r' runs = (r, refl, runs)
runs-cut (x ∷ xs) ys r r' runs = let rest = runs-cut xs ys runs.0 r' runs.2 in (rest.0, (runs.0, runs.1, rest.1), rest.2)
