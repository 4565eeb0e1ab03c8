-- Counters that are those of statistics pass the test of being so.
use Rattle.std.proofs.Common.{◌≡◌, ◌==◌, ◌&&◌, Bool, true, length, refl, arith}
use Rattle.std.specs.List.{list_all}
use Rattle.std.proofs.lemmas.Bool.Decides.{nat_tests}
use Rattle.std.proofs.lemmas.List.Sums.{list_all-from_AllPass}
use Rattle.stat_count.specs.Statistics.{Statistics}
use Rattle.stat_count.specs.inner.Statistics.{IsStatistics, are_statistics, can_be, is_sum}

both : (a b c d : Bool) → a ≡ true → b ≡ true → c ≡ true → d ≡ true → (a && b && c && d) ≡ true
both a b c d first second third last = rw (first, second, third, last) refl

pub are-statistics : (s : Statistics) → IsStatistics s → are_statistics s ≡ true
are-statistics s is =
    let channels : (length s.channels == 64) ≡ true = let many = is.all_channels in grind (arith, nat_tests) in
    let destinations : (length s.destinations == 32) ≡ true = let many = is.all_destinations in grind (arith, nat_tests) in
    both (length s.channels == 64) (length s.destinations == 32) (list_all is_sum s.channels) (list_all can_be s.destinations) channels destinations
    (list_all-from_AllPass is_sum s.channels (λ k d inside. let sums = is.received_is_sum k d inside in grind (arith, nat_tests)))
    (list_all-from_AllPass can_be s.destinations (λ k d inside. let taken = is.were_taken k d inside in let fit = is.slots_fit k d inside in grind (arith, nat_tests)))
