-- What rose with an entry.
use Rattle.std.proofs.Common.{◌≡◌, ◌≢◌, ℕ, zero, suc, ◌+◌, ◌-◌, ◌<◌, ◌≤◌, ◌^◌, length, ltb, map, None, inl, inr, refl, sym, ap, subst, ◌∙◌, arith, length-append, [], ◌∷◌}
use Rattle.std.specs.List.{range_with_len}
use Rattle.std.proofs.lemmas.List.FromFn.{length-map-range_with_len}
use Rattle.plan_text.specs.Entries.{PlanEntry}
use Rattle.stat_count.specs.Statistics.{Statistics}
use Rattle.stat_count.specs.Sums.{arrivals, settlements, takes}
use Rattle.event_log.specs.declared.entry.Entry.{Entry}
use Rattle.event_log.specs.History.{History, deployed_by, followed_by, next_place, plan_in_force}
use Rattle.event_log.specs.Alike.{Aside, IsAlike, forgotten_by}
use Rattle.event_log.specs.Folding.{prune_answer, pruned}
use Rattle.event_log.specs.inner.Legal.{IsSound}
use Rattle.event_log.proofs.FoldedAlike.{pruned-alike}
use Rattle.event_log.proofs.Following.{plan-kept}
use Rattle.event_log.specs.Counting.{channel_counts, counted, destination_counts}
use Rattle.book_core.specs.inner.Counting.{SumsRise}
use Rattle.book_lock.specs.Rises.{SharedBook, arrived, settled, taken}
use Rattle.book_lock.specs.inner.Rises.{IsCounted, IsOpened, with_book}
use Rattle.book_lock.proofs.Naming.{split_by}

pub arrived-is : (h : History) → arrived h ≡ arrivals (counted h)
unfolding arrived
arrived-is h = refl

pub taken-is : (h : History) → taken h ≡ takes (counted h)
unfolding taken
taken-is h = refl

pub settled-is : (h : History) → settled h ≡ settlements (counted h)
unfolding settled
settled-is h = refl

sum_more : (old new opening m x a b : ℕ) → old ≡ a → new ≡ b → old ≡ opening + m → b ≡ a + x → new ≡ opening + (m + x)
sum_more old new opening m x a b p q r t = omega (arith, p, q, r, t)

sum_fits : (old opening m a bound : ℕ) → old ≡ a → old ≡ opening + m → a ≤ bound → bound ≤ 128128000000 → m + 1 < 2 ^ 64
sum_fits old opening m a bound p r few small = omega (arith, p, r, few, small)

since_more : (h : History) (e : Entry) (first : ℕ) → first ≤ next_place h → first ≤ next_place (followed_by h e)
since_more h e first since = omega (arith, since, length-append h.entries (e ∷ []))

-- the statistics of a book are of 64 channels and 32 destinations
pub counted_channels : (h : History) → length (counted h).channels ≡ 64
counted_channels h = length-map-range_with_len (channel_counts h) 0 64

pub counted_destinations : (h : History) → length (counted h).destinations ≡ 32
counted_destinations h = length-map-range_with_len (destination_counts h) 0 32

-- what is counted follows an entry
counted_more : (h : SharedBook) (e : Entry) (m t s x y z : ℕ) → IsCounted h m t s → SumsRise x y z (counted h.book) (counted (followed_by h.book e)) → IsCounted (with_book h (followed_by h.book e)) (m + x) (t + y) (s + z)
counted_more h e m t s x y z known rise = record {
  arrivals_are = sum_more (arrived h.book) (arrived (followed_by h.book e)) (arrivals h.opening) m x (arrivals (counted h.book)) (arrivals (counted (followed_by h.book e))) (arrived-is h.book) (arrived-is (followed_by h.book e)) known.arrivals_are rise.arrivals;
  takes_are = sum_more (taken h.book) (taken (followed_by h.book e)) (takes h.opening) t y (takes (counted h.book)) (takes (counted (followed_by h.book e))) (taken-is h.book) (taken-is (followed_by h.book e)) known.takes_are rise.takes;
  settlements_are = sum_more (settled h.book) (settled (followed_by h.book e)) (settlements h.opening) s z (settlements (counted h.book)) (settlements (counted (followed_by h.book e))) (settled-is h.book) (settled-is (followed_by h.book e)) known.settlements_are rise.settlements;
  since = since_more h.book e h.first known.since;
}

-- the entries of a sound history are few
pub few_entries : (h : History) → IsSound h → h.opening.events_max ≤ 1000000 → length h.entries ≤ 1000000
few_entries h sound few = omega (arith, sound.room, few)

-- one more can be counted
pub arrivals_fit : (h : SharedBook) (m t s : ℕ) → IsCounted h m t s → arrivals (counted h.book) ≤ 128128000000 → m + 1 < 2 ^ 64
arrivals_fit h m t s known few = sum_fits (arrived h.book) (arrivals h.opening) m (arrivals (counted h.book)) 128128000000 (arrived-is h.book) known.arrivals_are few (omega arith)

pub takes_fit : (h : SharedBook) (m t s : ℕ) → IsCounted h m t s → takes (counted h.book) ≤ 32032000000 → t + 1 < 2 ^ 64
takes_fit h m t s known few = sum_fits (taken h.book) (takes h.opening) t (takes (counted h.book)) 32032000000 (taken-is h.book) known.takes_are few (omega arith)

pub settlements_fit : (h : SharedBook) (m t s : ℕ) → IsCounted h m t s → settlements (counted h.book) ≤ 32032000000 → s + 1 < 2 ^ 64
settlements_fit h m t s known few = sum_fits (settled h.book) (settlements h.opening) s (settlements (counted h.book)) 32032000000 (settled-is h.book) known.settlements_are few (omega arith)

-- a channel of the one plan is one of the other, where they don't differ
pub known_channel : (p q : PlanEntry) (channel : ℕ) → (p ≢ q → ⊥) → channel < length p.channels → channel < length q.channels
known_channel p q channel same known =
    elim (split_by (length q.channels) channel (ltb channel (length q.channels)) refl) [
      | inl past ↦ absurd (same (λ e. omega (arith, past, known, ap (λ (w : PlanEntry). length w.channels) e)))
      | inr inside ↦ inside
    ]

-- an entry that deploys no plan leaves as many channels
pub still : (h : SharedBook) (e : Entry) → deployed_by e ≡ None → length (plan_in_force (followed_by h.book e)).channels ≡ length (plan_in_force h.book).channels
still h e none = ap (λ (p : PlanEntry). length p.channels) (plan-kept h.book e none)

-- the book behind the lock after one more entry
pub next : (h : SharedBook) (e : Entry) (new : History) (counts : Statistics) (first channels m t s x y z m' t' s' : ℕ) → new ≡ followed_by h.book e
    → length (plan_in_force (followed_by h.book e)).channels ≡ length (plan_in_force h.book).channels
    → IsOpened h counts first channels → IsCounted h m t s → SumsRise x y z (counted h.book) (counted (followed_by h.book e))
    → m' ≡ m + x → t' ≡ t + y → s' ≡ s + z
    → IsOpened (with_book h new) counts first channels × IsCounted (with_book h new) m' t' s'
next h e new counts first channels m t s x y z m' t' s' booked same opened known rise ms ts ss =
    let now : IsCounted (with_book h (followed_by h.book e)) m' t' s' =
    subst (λ w. IsCounted (with_book h (followed_by h.book e)) w t' s') (sym ms)
    (subst (λ w. IsCounted (with_book h (followed_by h.book e)) (m + x) w s') (sym ts)
    (subst (λ w. IsCounted (with_book h (followed_by h.book e)) (m + x) (t + y) w) (sym ss) (counted_more h e m t s x y z known rise))) in
    let there : IsOpened (with_book h (followed_by h.book e)) counts first channels = record { opening = opened.opening; all_channels = opened.all_channels; all_destinations = opened.all_destinations; first_is = opened.first_is; channels_are = same ∙ opened.channels_are } in (
      subst (λ (b : History). IsOpened (with_book h b) counts first channels) (sym booked) there,
      subst (λ (b : History). IsCounted (with_book h b) m' t' s') (sym booked) now,
    )

none_yet : (now opening made a : ℕ) → now ≡ a → opening ≡ a → made ≡ 0 → now ≡ opening + made
none_yet now opening made a p q r = omega (arith, p, q, r)

-- the book behind the lock at first
pub opened_now : (book : History) (opening : Statistics) (at : ℕ) (counts : Statistics) (first channels m t s : ℕ) → opening ≡ counted book → at ≡ next_place book
    → counted book ≡ counts → next_place book ≡ first → length (plan_in_force book).channels ≡ channels → (m ≡ 0) × (t ≡ 0) × (s ≡ 0)
    → IsOpened (record { book = book; opening = opening; first = at; admitted = 0 }) counts first channels × IsCounted (record { book = book; opening = opening; first = at; admitted = 0 }) m t s
opened_now book opening at counts first channels m t s is here known firsts are none = (
  record {
    opening = is ∙ known;
    all_channels = ap (λ (w : Statistics). length w.channels) is ∙ counted_channels book;
    all_destinations = ap (λ (w : Statistics). length w.destinations) is ∙ counted_destinations book;
    first_is = here ∙ firsts;
    channels_are = are;
  },
  record {
    arrivals_are = none_yet (arrived book) (arrivals opening) m (arrivals (counted book)) (arrived-is book) (ap arrivals is) none.0;
    takes_are = none_yet (taken book) (takes opening) t (takes (counted book)) (taken-is book) (ap takes is) none.1;
    settlements_are = none_yet (settled book) (settlements opening) s (settlements (counted book)) (settled-is book) (ap settlements is) none.2;
    since = at_most at (next_place book) here;
  },
)
  where
    at_most : (a b : ℕ) → a ≡ b → a ≤ b
    at_most a b e = omega (arith, e)

-- what is counted of a history is counted of it once it is pruned
range-same : {A : Type 0} (f g : ℕ → A) (a n : ℕ) → ((k : ℕ) → k < a + n → f k ≡ g k) → map f (range_with_len a n) ≡ map g (range_with_len a n)
range-same f g a zero same = refl
range-same f g a (suc n) same =
    ap (λ x. x ∷ map f (range_with_len (a + 1) n)) (same a (omega arith))
    ∙ ap (λ l. g a ∷ l) (range-same f g (a + 1) n (λ k inside. same k (omega (arith, inside))))

counted-alike : (aside : Aside) (h k : History) → IsAlike aside h k → counted k ≡ counted h
counted-alike aside h k alike =
    ap (λ l. record { channels = l; destinations = map (destination_counts k) (range_with_len 0 32) }) (range-same (channel_counts k) (channel_counts h) 0 64 alike.channels)
    ∙ ap (λ l. record { channels = map (channel_counts h) (range_with_len 0 64); destinations = l }) (range-same (destination_counts k) (destination_counts h) 0 32 alike.destinations)

same_sum : (old new a b opening m : ℕ) → old ≡ a → new ≡ b → b ≡ a → old ≡ opening + m → new ≡ opening + m
same_sum old new a b opening m p q r t = omega (arith, p, q, r, t)

same_since : (h k : History) (first : ℕ) → next_place k ≡ next_place h → first ≤ next_place h → first ≤ next_place k
same_since h k first same since = omega (arith, same, since)

-- the book behind the lock after a pruning
pub folded : (h : SharedBook) (bound : ℕ) (new : History) (counts : Statistics) (first channels m t s : ℕ) → new ≡ pruned bound h.book → IsSound h.book → prune_answer h.book bound ≡ None
    → IsOpened h counts first channels → IsCounted h m t s → IsOpened (with_book h new) counts first channels × IsCounted (with_book h new) m t s
folded h bound new counts first channels m t s is sound may opened known =
    let k : History = pruned bound h.book in
    let alike = pruned-alike h.book sound bound may in
    let same : counted k ≡ counted h.book = counted-alike (forgotten_by bound h.book) h.book k alike in
    let there : IsOpened (with_book h k) counts first channels = record {
      opening = opened.opening;
      all_channels = opened.all_channels;
      all_destinations = opened.all_destinations;
      first_is = opened.first_is;
      channels_are = ap (λ (p : PlanEntry). length p.channels) alike.plan ∙ opened.channels_are;
    } in
    let now : IsCounted (with_book h k) m t s = record {
      arrivals_are = same_sum (arrived h.book) (arrived k) (arrivals (counted h.book)) (arrivals (counted k)) (arrivals h.opening) m (arrived-is h.book) (arrived-is k) (ap arrivals same) known.arrivals_are;
      takes_are = same_sum (taken h.book) (taken k) (takes (counted h.book)) (takes (counted k)) (takes h.opening) t (taken-is h.book) (taken-is k) (ap takes same) known.takes_are;
      settlements_are = same_sum (settled h.book) (settled k) (settlements (counted h.book)) (settlements (counted k)) (settlements h.opening) s (settled-is h.book) (settled-is k) (ap settlements same) known.settlements_are;
      since = same_since h.book k h.first alike.places known.since;
    } in (
      subst (λ (b : History). IsOpened (with_book h b) counts first channels) (sym is) there,
      subst (λ (b : History). IsCounted (with_book h b) m t s) (sym is) now,
    )

-- the book behind the lock after a question, which leaves it as it was
pub unchanged : (h : SharedBook) (new : History) (counts : Statistics) (first channels m t s : ℕ) → new ≡ h.book
    → IsOpened h counts first channels → IsCounted h m t s → IsOpened (with_book h new) counts first channels × IsCounted (with_book h new) m t s
unchanged h new counts first channels m t s same opened known = (
  subst (λ (b : History). IsOpened (with_book h b) counts first channels) (sym same) record {
    opening = opened.opening;
    all_channels = opened.all_channels;
    all_destinations = opened.all_destinations;
    first_is = opened.first_is;
    channels_are = opened.channels_are;
  },
  subst (λ (b : History). IsCounted (with_book h b) m t s) (sym same) record {
    arrivals_are = known.arrivals_are;
    takes_are = known.takes_are;
    settlements_are = known.settlements_are;
    since = known.since;
  },
)

-- and after a connection was admitted
pub admitting : (h : SharedBook) (n : ℕ) (counts : Statistics) (first channels m t s : ℕ) → IsOpened h counts first channels → IsCounted h m t s
    → IsOpened (record h { admitted = n }) counts first channels × IsCounted (record h { admitted = n }) m t s
admitting h n counts first channels m t s opened known = (
  record {
    opening = opened.opening;
    all_channels = opened.all_channels;
    all_destinations = opened.all_destinations;
    first_is = opened.first_is;
    channels_are = opened.channels_are;
  },
  record {
    arrivals_are = known.arrivals_are;
    takes_are = known.takes_are;
    settlements_are = known.settlements_are;
    since = known.since;
  },
)

-- a desk made no more than is shown
pub shown : (opening opened now result made total : ℕ) → opening ≡ opened → now ≡ result → now ≡ opening + total → made ≤ total → opened + made ≤ result
shown opening opened now result made total p q r few = omega (arith, p, q, r, few)

-- a rise is a difference
pub rise_fits : (now opening total r q a : ℕ) → now ≡ a → now ≡ opening + total → r ≡ a → q ≡ opening → q ≤ r
rise_fits now opening total r q a p s t u = omega (arith, p, s, t, u)

pub rise_is : (now opening r q a : ℕ) → now ≡ a → r ≡ a → q ≡ opening → r - q ≡ now - opening
rise_is now opening r q a p t u = omega (arith, p, t, u)
