-- The destinations of a plan.
use Rattle.std.specs.Prelude.{ℕ, List, [], ◌∷◌, Bool, codes, Result, Ok}
use Rattle.toml.specs.Data.{Data, Members}
use Rattle.plan_text.specs.declared.fault.PlanFault.{PlanFault}
use Rattle.plan_text.specs.declared.destination.Await.TheVariants as await
use Rattle.plan_text.specs.declared.from_toml.destinations.Sending.{Sending}
use Rattle.er7_tree.specs.Tree.{◌>>=◌}
use Rattle.plan_text.specs.Entries.{DestinationEntry}
use Rattle.plan_text.specs.Keys.{key, required, or_else, only_keys, table_at, list_within, each_after}
use Rattle.plan_text.specs.Kinds.{is_one_named, new_name, text_as, text_within, number_within, await_word}

-- one of these has the name
abbrev pub has_destination : List DestinationEntry → List ℕ → Bool
has_destination ds name = is_one_named (λ d. d.name) ds name

abbrev pub destination_keys : List (List ℕ)
destination_keys = codes "name" ∷ codes "address" ∷ codes "attempts" ∷ codes "interval" ∷ codes "timeout" ∷ codes "await" ∷ []

-- how messages are sent to a destination
unfoldable pub sending : List ℕ → Members → Result Sending PlanFault
sending at t = do
  attempts ← key at t (codes "attempts") (or_else 3 (number_within 1 100))
  interval ← key at t (codes "interval") (or_else 10 (number_within 0 86400))
  timeout ← key at t (codes "timeout") (or_else 30 (number_within 1 3600))
  wait ← key at t (codes "await") (or_else await.Ack (text_as await_word))
  Ok (record { attempts = attempts; interval = interval; timeout = timeout; wait = wait })

-- a table of [[destination]], behind those before it
unfoldable pub destination : List DestinationEntry → List ℕ → Data → Result DestinationEntry PlanFault
destination before at d = do
  t ← table_at at d
  known ← only_keys destination_keys at t
  name ← key at t (codes "name") (required (new_name (has_destination before)))
  address ← key at t (codes "address") (required (text_within 1 255))
  sent ← sending at t
  Ok (record { name = name; address = address; attempts = sent.attempts; interval = sent.interval; timeout = sent.timeout; wait = sent.wait })

-- the destinations of a document
unfoldable pub destinations : Members → Result (List DestinationEntry) PlanFault
destinations t = key [] t (codes "destination") (required (list_within 32)) >>= each_after destination (codes "destination") []
