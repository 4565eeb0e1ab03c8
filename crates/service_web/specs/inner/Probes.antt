-- Whether a service works, and whether it takes messages.
use Rattle.std.specs.Prelude.{ℕ, nat_lt, if◌then◌else◌}
use Rattle.service_http.specs.declared.response.Status.{Status}
use Rattle.service_http.specs.declared.response.Status.TheVariants.{Ok, Unavailable}
use Rattle.service_workers.specs.declared.stage.Stage.{Stage}
use Rattle.service_workers.specs.declared.stage.Stage.TheVariants.{Open, Closing, Halted}

-- an open service with fewer posts than queues doesn't work
abbrev pub health_is : Stage → ℕ → Status
health_is Open posts = if nat_lt posts 32 then Unavailable else Ok
health_is _ posts = Ok

-- only an open service takes messages
abbrev pub readiness_is : Stage → Status
readiness_is Open = Ok
readiness_is _ = Unavailable
