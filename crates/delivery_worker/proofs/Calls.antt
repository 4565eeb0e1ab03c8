-- How calls add up.
use Rattle.std.proofs.Common.{◌≡◌, ◌+◌, ◌≤◌, ℕ, Option, None, Some, arith}
use Rattle.delivery_worker.specs.inner.Calls.{CallsMore, CallsUpTo}

-- no call
pub calls_none : (a : Option ℕ) → CallsUpTo a a 0
calls_none None = tt
calls_none (Some x) = omega arith

-- at most so many are at most more
pub calls_within : (a b : Option ℕ) (n m : ℕ) → CallsUpTo a b n → n ≤ m → CallsUpTo a b m
calls_within None b n m p q = tt
calls_within (Some x) None n m p q = absurd p
calls_within (Some x) (Some y) n m p q = omega arith

-- some calls after others
pub calls_add : (a b c : Option ℕ) (n m k : ℕ) → CallsUpTo a b n → CallsUpTo b c m → n + m ≤ k → CallsUpTo a c k
calls_add None b c n m k p q r = tt
calls_add (Some x) None c n m k p q r = absurd p
calls_add (Some x) (Some y) None n m k p q r = absurd q
calls_add (Some x) (Some y) (Some z) n m k p q r = omega arith

-- exactly so many are at most so many
pub calls_up : (a b : Option ℕ) (n : ℕ) → CallsMore a b n → CallsUpTo a b n
calls_up None b n p = tt
calls_up (Some x) None n p = absurd p
calls_up (Some x) (Some y) n p = omega (arith, p)

-- no call, exactly
pub calls_same : (a : Option ℕ) → CallsMore a a 0
calls_same None = tt
calls_same (Some x) = omega arith

-- some calls after others, exactly
pub calls_then : (a b c : Option ℕ) (n m k : ℕ) → CallsMore a b n → CallsMore b c m → n + m ≡ k → CallsMore a c k
calls_then None b c n m k p q r = tt
calls_then (Some x) None c n m k p q r = absurd p
calls_then (Some x) (Some y) None n m k p q r = absurd q
calls_then (Some x) (Some y) (Some z) n m k p q r = omega (arith, p, q, r)

-- no more calls in the end
pub calls_end : (a b c d : Option ℕ) (n : ℕ) → CallsUpTo a b n → CallsUpTo b c 0 → CallsMore c d 0 → CallsUpTo a d n
calls_end None b c d n p q r = tt
calls_end (Some x) None c d n p q r = absurd p
calls_end (Some x) (Some y) None d n p q r = absurd q
calls_end (Some x) (Some y) (Some z) None n p q r = absurd r
calls_end (Some x) (Some y) (Some z) (Some w) n p q r = omega (arith, p, q, r)
