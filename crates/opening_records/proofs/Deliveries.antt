-- Deliveries pass the test where a message can have them, and only there.
use Rattle.std.proofs.Common.{◌≡◌, ◌≢◌, ℕ, zero, suc, ◌<◌, ◌≤◌, inl, inr, Bool, true, false, not, ◌&&◌, ◌==◌, List, [], ◌∷◌, length, get_or, refl, sym, arith}
use Rattle.std.specs.List.{All, AllPairs, list_all, list_any}
use Rattle.std.proofs.lemmas.Bool.{and_from, and_parts, lt-ltb, ltb-true, ne_eqb, not-true, not_from_false}
use Rattle.std.proofs.lemmas.Bool.Decides.{eqb_tells}
use Rattle.std.proofs.lemmas.List.Elements.{All-cons}
use Rattle.std.proofs.lemmas.List.Folds.{list_any_none}
use Rattle.std.proofs.lemmas.List.Sums.{AllPass-from_list_all, list_all-from_AllPass}
use Rattle.std.proofs.lemmas.List.Kept.{AllPairs-cons}
use Rattle.mllp_frame.specs.Framing.{IsData, is_framing}
use Rattle.judge_core.specs.declared.delivery.Delivery.{Delivery}
use Rattle.judge_core.specs.inner.Delivering.{AreDeliveries}
use Rattle.event_log.specs.History.{names}
use Rattle.event_log.proofs.Owing.{few-deliveries}
use Rattle.opening_records.specs.inner.Decoding.{are_apart, are_deliveries, is_delivery, is_plain}

-- ---- tests of lists

pub all_of : {X : Type 0} (p : X → Bool) (P : X → Type 0) → ((x : X) → p x ≡ true → P x) → (xs : List X) → list_all p xs ≡ true → All P xs
all_of p P each xs all k d inside = each (get_or xs k d) (AllPass-from_list_all p xs all k d inside)

pub test_of : {X : Type 0} (p : X → Bool) (P : X → Type 0) → ((x : X) → P x → p x ≡ true) → (xs : List X) → All P xs → list_all p xs ≡ true
test_of p P each xs all = list_all-from_AllPass p xs (λ k d inside. each (get_or xs k d) (all k d inside))

-- ---- destinations that differ

unnamed : (d : ℕ) (xs : List Delivery) → names d xs ≡ false → All (λ y. d ≢ y.destination) xs
unnamed d [] e = λ k z inside. absurd (omega arith)
unnamed d (x ∷ xs) e =
    elim (eqb_tells x.destination d) [
      | inl w ↦ let h = rw w.0 at e in absurd (cc)
      | inr w ↦ All-cons (λ y. d ≢ y.destination) x xs (λ same. w.1 (sym same)) (unnamed d xs (rw w.0 at e))
    ]

apart_pairs : (xs : List Delivery) → are_apart xs ≡ true → AllPairs (λ x y. x.destination ≢ y.destination) xs
apart_pairs [] e = λ i j d lt inside. absurd (omega arith)
apart_pairs (x ∷ xs) e =
    let p = and_parts _ _ e in
    AllPairs-cons (λ x y. x.destination ≢ y.destination) x xs (unnamed x.destination xs (not-true _ p.0)) (apart_pairs xs p.1)

named_never : (d : ℕ) (xs : List Delivery) → All (λ y. d ≢ y.destination) xs → names d xs ≡ false
named_never d xs differ = list_any_none (λ y. y.destination == d) xs (λ k z inside. ne_eqb (get_or xs k z).destination d (λ same. differ k z inside (sym same)))

pairs_apart : (xs : List Delivery) → AllPairs (λ x y. x.destination ≢ y.destination) xs → are_apart xs ≡ true
pairs_apart [] once = refl
pairs_apart (x ∷ xs) once =
    and_from _ _ (not_from_false _ (named_never x.destination xs (λ k d inside. once zero (suc k) d (omega arith) (omega arith))))
    (pairs_apart xs (λ i j d lt inside. once (suc i) (suc j) d (omega arith) (omega arith)))

-- ---- deliveries

plain_data : (text : List ℕ) → is_plain text ≡ true → IsData text
plain_data text e = all_of (λ b. not (is_framing b)) (λ b. is_framing b ≡ false) (λ b h. not-true _ h) text e

data_plain : (text : List ℕ) → IsData text → is_plain text ≡ true
data_plain text plain = test_of (λ b. not (is_framing b)) (λ b. is_framing b ≡ false) (λ b h. not_from_false _ h) text plain

pub deliveries_good : (xs : List Delivery) → are_deliveries xs ≡ true → AreDeliveries xs
deliveries_good xs e =
    let p = and_parts _ _ e in
    let q = and_parts _ _ p.0 in
    record {
      within = all_of is_delivery (λ x. x.destination < 32) (λ x h. ltb-true x.destination 32 (and_parts _ _ h).0) xs q.1;
      once = apart_pairs xs p.1;
      plain = all_of is_delivery (λ x. IsData x.payload) (λ x h. plain_data x.payload (and_parts _ _ h).1) xs q.1;
    }

pub good_deliveries : (xs : List Delivery) → AreDeliveries xs → are_deliveries xs ≡ true
good_deliveries xs good =
    let few = few-deliveries xs good.within good.once in
    and_from _ _ (
    and_from _ _ (lt-ltb (length xs) 33 (omega arith))
    (list_all-from_AllPass is_delivery xs (λ k d inside. and_from _ _ (lt-ltb (get_or xs k d).destination 32 (good.within k d inside)) (data_plain (get_or xs k d).payload (good.plain k d inside))))
    ) (pairs_apart xs good.once)
