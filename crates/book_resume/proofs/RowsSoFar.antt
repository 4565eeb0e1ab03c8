-- The rows and the keys of the first of an opening's arrivals.
use Rattle.std.proofs.Common.{◌≡◌, ℕ, ◌+◌, ◌<◌, List, [], ◌∷◌, ◌++◌, length, map, get_or, take, Option, None, Some, refl, sym, ◌∙◌, ap, subst, arith}
use Rattle.std.specs.Prelude.{All, Contains, option_to_list}
use Rattle.std.specs.List.{AllByRecursion, filter_map}
use Rattle.std.proofs.lemmas.List.{append-nil, map-append, take_more}
use Rattle.std.proofs.lemmas.List.Elements.{All-from_recursion, All-push, Contains-get_or, filter_map-append}
use Rattle.row_store.specs.declared.Row.{Row}
use Rattle.row_store.specs.Rows.{row_numbers as numbers_of}
use Rattle.dest_queue.specs.declared.slots.Queued.{Queued}
use Rattle.dup_index.specs.inner.Known.{Known, place_of}
use Rattle.judge_core.specs.Judging.{key_of}
use Rattle.event_log.specs.History.{Remembered}
use Rattle.event_log.specs.inner.History.{number_of}
use Rattle.event_log.proofs.MemoryNumbers.{Climbing, climbing-within}
use Rattle.book_core.specs.declared.letter.Outbound.{Outbound}
use Rattle.book_resume.specs.inner.Resuming.{IsMessage}
use Rattle.book_resume.specs.inner.Keys.{AreApart, known_as}
use Rattle.book_resume.specs.inner.Rows.{AddsNumbered, HasRoomFor, IsRowAmong}
use Rattle.book_resume.proofs.Apart.{apart-more}
use Rattle.book_resume.proofs.Found.{before-lower}

-- what was added for the arrivals below an index
pub record SoFar (arrivals : List Remembered) (i : ℕ) (rows : List (Row (Queued Outbound))) (known : List Known) : Type 0 where
  pub numbers : numbers_of rows ≡ filter_map number_of (take i arrivals)
  pub each : AllByRecursion (IsRowAmong arrivals) rows
  pub keys : known ≡ map known_as (take i arrivals)
  pub messages : All (λ r. IsMessage r.raw) (take i arrivals)
  pub apart : AreApart (take i arrivals)

pub none-added : (arrivals : List Remembered) → SoFar arrivals 0 [] []
none-added arrivals = record {
  numbers = refl;
  each = tt;
  keys = refl;
  messages = λ k d inside. absurd (omega arith);
  apart = λ i j d before inside. absurd (omega arith);
}

all-pushed : {A : Type 0} (P : A → Type 0) (xs : List A) (x : A) → AllByRecursion P xs → P x → AllByRecursion P (xs ++ x ∷ [])
all-pushed P [] x all last = (last, tt)
all-pushed P (y ∷ ys) x all last = (all.0, all-pushed P ys x all.1 last)

module _ (arrivals : List Remembered) (i : ℕ) (r : Remembered) (inside : i < length arrivals) (is : r ≡ get_or arrivals i r)
    (rows : List (Row (Queued Outbound))) (known : List Known) (so_far : SoFar arrivals i rows known) where
  one-more : take (i + 1) arrivals ≡ take i arrivals ++ r ∷ []
  one-more = take_more arrivals i r inside ∙ ap (λ x. take i arrivals ++ x ∷ []) (sym is)

  -- there is room for its number at the end
  pub has-room : (high : ℕ) → Climbing 0 high (filter_map number_of arrivals) → HasRoomFor (number_of r) rows
  has-room high climb = by (number_of r) refl
    where
      below : (n : ℕ) (rows : List (Row (Queued Outbound))) → AllByRecursion (λ m. m < n) (numbers_of rows) → AllByRecursion (λ row. row.number < n) rows
      below n [] all = tt
      below n (row ∷ rows) all = (all.0, below n rows all.1)

      by : (o : Option ℕ) → number_of r ≡ o → HasRoomFor o rows
      by None none = tt
      by (Some n) own =
          All-from_recursion (λ (row : Row (Queued Outbound)). row.number < n) rows
          (below n rows (subst (AllByRecursion (λ (m : ℕ). m < n)) (sym so_far.numbers)
          (climbing-within 0 n (filter_map number_of (take i arrivals)) (before-lower 0 high n arrivals i r climb inside (sym is) own))))

  numbers-more : filter_map number_of (take (i + 1) arrivals) ≡ filter_map number_of (take i arrivals) ++ option_to_list (number_of r)
  numbers-more = ap (filter_map number_of) one-more ∙ (filter_map-append number_of (take i arrivals) (r ∷ []) ∙ ap (λ xs. filter_map number_of (take i arrivals) ++ xs) (alone (number_of r) refl))
    where
      alone : (o : Option ℕ) → number_of r ≡ o → filter_map number_of (r ∷ []) ≡ option_to_list (number_of r)
      alone None is = rw is refl
      alone (Some n) is = rw is refl

  -- one more arrival
  pub more-added : (rows' : List (Row (Queued Outbound))) (known' : List Known) → AddsNumbered (number_of r) r rows rows'
      → known' ≡ known ++ known_as r ∷ [] → IsMessage r.raw → place_of (key_of r.channel r.raw) known ≡ None → SoFar arrivals (i + 1) rows' known'
  more-added rows' known' adds keys message unknown = by (number_of r) refl adds
    where
      its-keys : known' ≡ map known_as (take (i + 1) arrivals)
      its-keys = keys ∙ (ap (λ ks. ks ++ known_as r ∷ []) so_far.keys
          ∙ (sym (map-append known_as (take i arrivals) (r ∷ [])) ∙ ap (map known_as) (sym one-more)))

      its-messages : All (λ r. IsMessage r.raw) (take (i + 1) arrivals)
      its-messages = subst (All (λ (r : Remembered). IsMessage r.raw)) (sym one-more) (All-push (λ (r : Remembered). IsMessage r.raw) (take i arrivals) r so_far.messages message)

      its-apart : AreApart (take (i + 1) arrivals)
      its-apart = apart-more arrivals i r inside is so_far.apart (subst (λ (k : List Known). place_of (key_of r.channel r.raw) k ≡ None) so_far.keys unknown)

      by : (o : Option ℕ) → number_of r ≡ o → AddsNumbered o r rows rows' → SoFar arrivals (i + 1) rows' known'
      by None none same = record {
        numbers = ap numbers_of same ∙ (so_far.numbers ∙ sym (numbers-more ∙ ap (λ q. filter_map number_of (take i arrivals) ++ option_to_list q) none ∙ append-nil (filter_map number_of (take i arrivals))));
        each = subst (AllByRecursion (IsRowAmong arrivals)) (sym same) so_far.each;
        keys = its-keys;
        messages = its-messages;
        apart = its-apart;
      }
      by (Some n) own adds =
          let among : Contains arrivals r = subst (Contains arrivals) (sym is) (Contains-get_or arrivals i r inside) in record {
            numbers = ap numbers_of adds.added ∙ (map-append (λ (row : Row (Queued Outbound)). row.number) rows (adds.row ∷ [])
                ∙ (ap (λ ns. ns ++ adds.row.number ∷ []) so_far.numbers
                ∙ sym (numbers-more ∙ ap (λ q. filter_map number_of (take i arrivals) ++ option_to_list q) adds.is.number)));
            each = subst (AllByRecursion (IsRowAmong arrivals)) (sym adds.added)
                (all-pushed (IsRowAmong arrivals) rows adds.row so_far.each (record { arrival = r; among = among; is = adds.is }));
            keys = its-keys;
            messages = its-messages;
            apart = its-apart;
          }
