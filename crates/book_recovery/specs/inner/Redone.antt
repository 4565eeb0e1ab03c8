-- What a recovery has made of bodies so far.
use Rattle.std.specs.Prelude.{◌≡◌, ℕ, max, List, map, Option, None, Some}
use Rattle.std.specs.Option.{option_map_or}
use Rattle.event_log.specs.History.{History}
use Rattle.event_records.specs.declared.record.Record.{Record}
use Rattle.event_records.specs.inner.Encoding.{encoding}
use Rattle.book_replay.specs.Replay.{AreReplayed, IsBooked, after_records}
use Rattle.book_recovery.specs.declared.seen.Seen.{Seen}
use Rattle.book_recovery.specs.Seen.{connection_of, last_connection, last_moment, moment_of}
use Rattle.book_recovery.specs.inner.File.{record_in, records_in}

-- the highest connection with one more, if there is one more
abbrev pub more_connection : Option ℕ → Option ℕ → Option ℕ
more_connection last more = option_map_or (λ n. Some (option_map_or (λ a. max a n) last n)) more last

-- the last moment with one more, if there is one more
abbrev pub more_moment : ℕ → Option ℕ → ℕ
more_moment last more = option_map_or (max last) more last

-- the record of a body is booked again, and what it says is noted
pub record IsRedone (old new : History) (seen more : Seen) (body : List ℕ) : Type 0 where
  pub its : Record
  pub read : record_in body ≡ Some its
  pub encoded : body ≡ encoding its
  pub booked : IsBooked old new its
  pub connection : more.connection ≡ more_connection seen.connection (connection_of its)
  pub moment : more.moment ≡ more_moment seen.moment (moment_of its)

-- so are those of bodies, from a history on
pub record HasRedone (start : History) (bodies : List (List ℕ)) (now : History) (seen : Seen) : Type 0 where
  pub encoded : bodies ≡ map encoding (records_in bodies)
  pub history : now ≡ after_records start (records_in bodies)
  pub replayed : AreReplayed start (records_in bodies)
  pub connection : seen.connection ≡ last_connection (records_in bodies)
  pub moment : seen.moment ≡ last_moment (records_in bodies)
