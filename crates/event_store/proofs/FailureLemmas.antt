-- Why an open fails.
use Rattle.std.proofs.Common.{◌≡◌, ℕ, suc, ◌+◌, ◌^◌, ◌≤◌, List, [], ◌∷◌, map, length, refl, ap, ◌∙◌, arith, length-append}
use Rattle.std.proofs.lemmas.List.{length-map}
use Rattle.sqlite_trees.specs.View.{View}
use Rattle.event_store.specs.Records.{Record, Contents, contents, rows_from, record_in, IsNumberedOut}
use Rattle.event_store.specs.inner.Reading.{HasRead}

count_rows : (n : ℕ) (records : List Record) → length (rows_from n records) ≡ length records
count_rows n [] = refl
count_rows n (r ∷ records) = ap suc (count_rows (n + 1) records)

-- the walk is at a number that no record may have
pub numbered_out : (first number : ℕ) (old mid : View) (found : List Contents) → HasRead first old mid found → number ≡ first + length found → 2 ^ 62 ≤ number → IsNumberedOut first old.trees
numbered_out first number old mid found read due past =
    let rows : length (old.trees 0) ≡ length (rows_from first read.records) + length read.left = ap length read.rows ∙ length-append (rows_from first read.records) read.left in
    let seen : length (map contents read.records) ≡ length found = ap length read.shown in
    omega (arith, rows, count_rows first read.records, length-map read.records contents, seen, length-map (old.trees 0) record_in, due, past)
