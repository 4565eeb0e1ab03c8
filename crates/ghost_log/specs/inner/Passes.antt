-- Passes: what each pass to a log knows, how the steps change it, and the rule that they keep together.
use Rattle.std.specs.Prelude.{◌≡◌, ◌≢◌, ℕ, ◌+◌, ◌<◌, true, false, List, [], ◌∷◌, ◌++◌, All, AllPairs}
use mathlib.Core.Option.{some}
use lib.ListN.{get_elem?}
use Rattle.atomic_table.specs.Table.{Me}
use Rattle.atomic_table.specs.Seated.{TableId}
use Rattle.ghost_log.specs.declared.rule.PassView.{PassView}
use Rattle.ghost_log.specs.Seats.{Agrees}
use Rattle.ghost_log.specs.inner.Seats.{entries_by}

-- an identity that no table has
abbrev pub no_table : TableId
no_table = record { words = 0; slots = 0; views_name = 0; atom = 0; block = 0; offset = 0; slot_names = [] }

module _ {E : Type 0} where
  -- what the keeper's pass knows: the log, how many seats were issued, and the seats that are joined to it, each by its
  -- number and what it has seen
  abbrev pub roll_view : List (ℕ × E) → ℕ → List (ℕ × List (ℕ × E)) → PassView E
  roll_view log issued held = record { keeps = true; log = log; issued = issued; held = held }

  -- what it knows while none is joined
  abbrev pub keeper_view : List (ℕ × E) → ℕ → PassView E
  keeper_view log issued = roll_view log issued []

  -- what it knows while the pass of seat k alone is joined
  abbrev pub joint_view : List (ℕ × E) → ℕ → ℕ → List (ℕ × E) → PassView E
  joint_view log issued k seen = roll_view log issued ((k, seen) ∷ [])

  -- what the pass of seat k knows: its number, and what it has seen
  abbrev pub seat_view : ℕ → List (ℕ × E) → PassView E
  seat_view k seen = record { keeps = false; log = []; issued = 0; held = (k, seen) ∷ [] }

  -- what a pass knows that is spent
  abbrev pub empty_view : PassView E
  empty_view = record { keeps = false; log = []; issued = 0; held = [] }

  -- what the first of these seats has seen
  abbrev pub first_seen : List (ℕ × List (ℕ × E)) → List (ℕ × E)
  first_seen [] = []
  first_seen (h ∷ hs) = h.1

  -- the first of these seats, if there is one, and the others
  abbrev pub first_held : List (ℕ × List (ℕ × E)) → List (ℕ × List (ℕ × E))
  first_held [] = []
  first_held (h ∷ hs) = h ∷ []

  abbrev pub others_held : List (ℕ × List (ℕ × E)) → List (ℕ × List (ℕ × E))
  others_held [] = []
  others_held (h ∷ hs) = hs

  -- the first of these seats has this number
  abbrev pub IsFirst : ℕ → List (ℕ × List (ℕ × E)) → Type 0
  IsFirst k [] = ⊥
  IsFirst k (h ∷ hs) = h.0 ≡ k

  -- what the pass of a seat has seen
  abbrev pub seen_of : List (PassView E) → List (ℕ × E)
  seen_of [] = []
  seen_of (v ∷ vs) = first_seen v.held

  -- a seat's pass joins the keeper's
  abbrev pub joined_views : PassView E → PassView E → PassView E
  joined_views v w = record { keeps = v.keeps; log = v.log; issued = v.issued; held = w.held ++ v.held }

  -- the two parts, once the first of the seats leaves
  abbrev pub keeper_part : PassView E → PassView E
  keeper_part v = record { keeps = v.keeps; log = v.log; issued = v.issued; held = others_held v.held }

  abbrev pub seat_part : PassView E → PassView E
  seat_part v = record { keeps = false; log = []; issued = 0; held = first_held v.held }

  -- the keeper's pass and a new seat's, once a seat is issued
  abbrev pub with_new_seat : PassView E → PassView E
  with_new_seat v = record { keeps = v.keeps; log = v.log; issued = v.issued + 1; held = [] }

  abbrev pub new_seat_view : PassView E → PassView E
  new_seat_view v = seat_view v.issued []

  -- entries with the number of the first of these seats, if there is one
  abbrev pub first_entries : List (ℕ × List (ℕ × E)) → List E → List (ℕ × E)
  first_entries [] es = []
  first_entries (h ∷ hs) es = entries_by h.0 es

  -- the first of these seats, if there is one, has seen this
  abbrev pub first_shown : List (ℕ × E) → List (ℕ × List (ℕ × E)) → List (ℕ × List (ℕ × E))
  first_shown log [] = []
  first_shown log (h ∷ hs) = (h.0, log) ∷ hs

  -- the keeper's pass with more entries for the seat that is joined, which has then seen the whole log
  abbrev pub with_entries : List E → PassView E → PassView E
  with_entries es v = record {
    keeps = v.keeps;
    log = v.log ++ first_entries v.held es;
    issued = v.issued;
    held = first_shown (v.log ++ first_entries v.held es) v.held;
  }

  -- the log with more entries of seat k
  abbrev pub extended : ℕ → List E → List (ℕ × E) → List (ℕ × E)
  extended k es log = log ++ entries_by k es

  -- no two of these seats have the same number
  abbrev pub AreApart : List (ℕ × List (ℕ × E)) → Type 0
  AreApart held = AllPairs (λ s t. s.0 ≢ t.0) held

  -- the seats that are joined agree with the log, have different numbers, and were issued
  pub record IsFitting (v : PassView E) : Type 0 where
    pub agreed : All (λ s. Agrees s.0 s.1 v.log) v.held
    pub apart : AreApart v.held
    pub issued : All (λ s. s.0 < v.issued) v.held
    pub within : All (λ x. x.0 < v.issued) v.log

  module _ {S : Type 0} where
    -- the keeper's pass, to which these are joined
    abbrev pub IsRoll : Me S (PassView E) → Type 0
    IsRoll me = me ≡ (roll_view me.0.log me.0.issued me.0.held, [])

    -- the keeper's pass, to which none is joined
    abbrev pub IsAlone : Me S (PassView E) → Type 0
    IsAlone me = me ≡ (keeper_view me.0.log me.0.issued, [])

    -- the keeper's pass, to which that of seat k alone is joined
    abbrev pub IsJoint : ℕ → Me S (PassView E) → Type 0
    IsJoint k me = me ≡ (joint_view me.0.log me.0.issued k (first_seen me.0.held), [])

    -- entries were added for the seat that is joined
    abbrev pub HasAdded : List E → Me S (PassView E) → Me S (PassView E) → Type 0
    HasAdded es v w = (w ≡ (with_entries es v.0, v.1)) × IsFitting v.0

    -- nothing changed, and the seats that are joined fit the log
    abbrev pub HasCompared : Me S (PassView E) → Me S (PassView E) → Type 0
    HasCompared v w = (w ≡ v) × IsFitting v.0

  -- the rule for a seat that a pass holds: it was issued, this pass owns it, and it has seen a prefix of the log, with all
  -- its entries
  abbrev pub IsSeat : List (ℕ × E) → ℕ → (ℕ → ℕ) → ℕ → ℕ × List (ℕ × E) → Type 0
  IsSeat log issued owner by s = (s.0 < issued) × (owner s.0 ≡ by) × Agrees s.0 s.1 log

  -- the rule for one pass: that of the keeper knows the log, and each pass owns the seats that it holds, which have
  -- different numbers
  abbrev pub Fits : ℕ → List (ℕ × E) → ℕ → (ℕ → ℕ) → ℕ → PassView E → Type 0
  Fits keeper log issued owner by v =
      (v.keeps ≡ true → (by ≡ keeper) × (v.log ≡ log) × (v.issued ≡ issued))
      × All (IsSeat log issued owner by) v.held × AreApart v.held

  -- the rule: one pass at most is the keeper's, one at most owns each number, each seat has seen a prefix of the log in
  -- which all entries of its number are, and each entry has a number that was issued
  pub record IsConsistent (views : List (PassView E)) : Type 0 where
    pub keeper : ℕ
    pub log : List (ℕ × E)
    pub issued : ℕ
    pub owner : ℕ → ℕ
    pub within : All (λ x. x.0 < issued) log
    pub each : (by : ℕ) (v : PassView E) → get_elem? views by ≡ some v → Fits keeper log issued owner by v
