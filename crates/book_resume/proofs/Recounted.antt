-- The statistics that a book begins with, from the counters of its channels and destinations.
use Rattle.std.proofs.Common.{◌≡◌, true, false, List, Option, None, Some, sym, ◌∙◌, ap, subst, arith}
use Rattle.std.specs.Prelude.{IfNone, IfOk, IfSome, IsErrOf, OnOk}
use Rattle.std.specs.Option.{ok_or}
use Rattle.std.specs.List.{list_all}
use Rattle.std.proofs.Common.{Result, Ok, Err}
use Rattle.std.proofs.lemmas.Bool.Decides.{nat_tests}
use Rattle.std.proofs.lemmas.List.Sums.{list_all-from_AllPass}
use Rattle.stat_count.specs.declared.ChannelCounts.{ChannelCounts}
use Rattle.stat_count.specs.declared.DestinationCounts.{DestinationCounts}
use Rattle.stat_count.specs.Statistics.{Statistics}
use Rattle.stat_count.specs.inner.Statistics.{IsStatistics, are_statistics}
use Rattle.book_resume.specs.inner.Counters.{was_taken}
use Rattle.book_resume.proofs.StatisticsBegun.{are-statistics}

-- what holds, holds where something is found
pub on-ok : {T E : Type 0} (r : Result T E) (P : Type 0) → P → OnOk r P
on-ok (Ok x) P p = p
on-ok (Err e) P p = tt

module _ (s : Statistics) (channels : List ChannelCounts) (destinations : List DestinationCounts)
    (channels-are : channels ≡ s.channels) (destinations-are : destinations ≡ s.destinations) where
  -- where not all were taken they are not those of a book
  pub taken-else : list_all was_taken destinations ≡ false → ¬ IsStatistics s
  taken-else fails are =
      let yes : list_all was_taken s.destinations ≡ true
      = list_all-from_AllPass was_taken s.destinations (λ k d inside. let taken = are.were_taken k d inside in grind (arith, nat_tests)) in
      let same : list_all was_taken s.destinations ≡ false = sym (ap (list_all was_taken) destinations-are) ∙ fails in
      absurd cc

  module _ {E : Type 0} (e : E) (r : Result Statistics E) where
    pub counted-ok : (q : Option Statistics) → r ≡ ok_or q e → IfSome q (λ c. c.channels ≡ channels) → IfSome q (λ c. c.destinations ≡ destinations)
        → IfOk r (λ c. c ≡ s)
    counted-ok q is first second = subst (λ (x : Result Statistics E). IfOk x (λ c. c ≡ s)) (sym is) (by q first second)
      where
        by : (q : Option Statistics) → IfSome q (λ c. c.channels ≡ channels) → IfSome q (λ c. c.destinations ≡ destinations) → IfOk (ok_or q e) (λ c. c ≡ s)
        by None first second = tt
        by (Some c) first second = λ i. record { channels = (first ∙ channels-are) i; destinations = (second ∙ destinations-are) i }

    pub counted-else : (q : Option Statistics) → r ≡ ok_or q e
        → IfNone q (are_statistics (record { channels = channels; destinations = destinations }) ≡ false) → IsErrOf r e → ¬ IsStatistics s
    counted-else q is fails = subst (λ (x : Result Statistics E). IsErrOf x e → ¬ IsStatistics s) (sym is) (by q fails)
      where
        by : (q : Option Statistics) → IfNone q (are_statistics (record { channels = channels; destinations = destinations }) ≡ false)
            → IsErrOf (ok_or q e) e → ¬ IsStatistics s
        by None fails is = λ are.
            let yes = are-statistics s are in
            let same : are_statistics s ≡ false
            = ap are_statistics (λ i. record { channels = sym channels-are i; destinations = sym destinations-are i }) ∙ fails in
            absurd cc
        by (Some c) fails is = absurd cc
