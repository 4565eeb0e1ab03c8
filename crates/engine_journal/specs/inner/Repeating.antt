-- Which records of the log are counted and not shown.
use Rattle.std.specs.Prelude.{ℕ, Bool, false, ◌&&◌, ◌||◌, ◌==◌, ◌-◌, nat_lt, not, List, length, Option}
use Rattle.std.specs.List.{list_any}
use Rattle.std.specs.Option.{option_map_or}
use Rattle.engine_journal.specs.declared.repeats.Kind.{Kind}

-- something of a kind was written less than 60 seconds before
abbrev pub is_quiet : ℕ → Kind → Bool
is_quiet now kind = nat_lt (now - kind.since) 60

-- a record of the kind with this key was shown less than 60 seconds before
abbrev pub hides : ℕ → ℕ → Kind → Bool
hides key now kind = (kind.key == key) && is_quiet now kind

-- a record repeats one that was shown less than 60 seconds before
abbrev pub is_repetition : ℕ → ℕ → List Kind → Bool
is_repetition key now kinds = list_any (hides key now) kinds

-- a kind has an entry
abbrev pub is_known : ℕ → List Kind → Bool
is_known key kinds = list_any (λ kind. kind.key == key) kinds

-- an entry may be given to another kind: nothing of its kind was written for 60 seconds, and no record of it is hidden
abbrev pub is_stale : ℕ → Kind → Bool
is_stale now kind = (kind.hidden == 0) && not (is_quiet now kind)

-- an entry may be given to another kind
abbrev pub has_stale : ℕ → List Kind → Bool
has_stale now kinds = list_any (is_stale now) kinds

-- a kind without an entry gets one: there are fewer than 64, or one may be given to it
abbrev pub has_room : ℕ → List Kind → Bool
has_room now kinds = nat_lt (length kinds) 64 || has_stale now kinds

-- a record for which no kind is left was shown less than 60 seconds before
abbrev pub is_too_soon : ℕ → Option Kind → Bool
is_too_soon now further = option_map_or (is_quiet now) further false

-- a record is counted and not shown: it repeats one, or no kind is left for it and another such one was shown
abbrev pub is_hidden : ℕ → ℕ → List Kind → Option Kind → Bool
is_hidden key now kinds further =
    is_repetition key now kinds || (not (is_known key kinds || has_room now kinds) && is_too_soon now further)
