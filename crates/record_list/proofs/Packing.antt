-- Links as they are kept: reading one, and writing one.
use Rattle.std.proofs.Common.{◌≡◌, ◌<◌, ℕ, zero, suc, List, [], ◌∷◌, length, slice_index_or, slice_set, refl, ap, arith}
use Rattle.std.specs.declared.option.Option.TheVariants.{None}
use Rattle.record_list.specs.declared.row_head.LinkKind.{LinkKind}
use Rattle.record_list.specs.declared.row_head.LinkKind.TheVariants.{Absent}
use Rattle.record_list.specs.declared.row_head.Neighbours.{Neighbours}
use Rattle.record_list.specs.inner.Packing.{link_of, links_of}

pub link_read : (ss : List LinkKind) (es : List Neighbours) (d : ℕ) (e : Neighbours) → d < length ss → d < length es → slice_index_or (links_of ss es) d None ≡ link_of (slice_index_or ss d Absent) (slice_index_or es d e)
link_read [] es d e a b = absurd (omega (arith, a))
link_read (s ∷ ss) [] d e a b = absurd (omega (arith, b))
link_read (s ∷ ss) (x ∷ es) zero e a b = refl
link_read (s ∷ ss) (x ∷ es) (suc d) e a b = link_read ss es d e (omega (arith, a)) (omega (arith, b))

pub link_written : (ss : List LinkKind) (es : List Neighbours) (d : ℕ) (s : LinkKind) (e : Neighbours) → links_of (slice_set ss d s) (slice_set es d e) ≡ slice_set (links_of ss es) d (link_of s e)
link_written [] es d s e = refl
link_written (t ∷ ss) [] zero s e = refl
link_written (t ∷ ss) [] (suc d) s e = refl
link_written (t ∷ ss) (x ∷ es) zero s e = refl
link_written (t ∷ ss) (x ∷ es) (suc d) s e = ap (λ l. link_of t x ∷ l) (link_written ss es d s e)

pub link_kept : (ss : List LinkKind) (es : List Neighbours) (d : ℕ) (s : LinkKind) (e : Neighbours) → d < length ss → d < length es → slice_index_or (links_of (slice_set ss d s) (slice_set es d e)) d None ≡ link_of s e
link_kept [] es d s e a b = absurd (omega (arith, a))
link_kept (t ∷ ss) [] d s e a b = absurd (omega (arith, b))
link_kept (t ∷ ss) (x ∷ es) zero s e a b = refl
link_kept (t ∷ ss) (x ∷ es) (suc d) s e a b = link_kept ss es d s e (omega (arith, a)) (omega (arith, b))
