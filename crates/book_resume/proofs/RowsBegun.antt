-- The rows of the arrivals of an opening agree with the history that begins with it.
use Rattle.std.proofs.Common.{◌≡◌, ℕ, ◌<◌, false, cond, List, [], ◌∷◌, None, Some, refl, sym, ◌∙◌, ap, arith}
use Rattle.std.specs.List.{AllByRecursion}
use Rattle.std.specs.Option.{option_map, option_map_or}
use Rattle.std.proofs.lemmas.List.Elements.{All-contains}
use Rattle.row_store.specs.declared.Row.{Row}
use Rattle.dest_queue.specs.declared.slots.Queued.{Queued}
use Rattle.dest_queue.specs.inner.SlotsBy.{slots_by}
use Rattle.dest_queue.specs.States.{is_live}
use Rattle.judge_core.specs.Delivering.{destinations_of}
use Rattle.event_log.specs.History.{Remembered, Snapshot, accepted_of, begun, control_id_of, deliveries, is_queued, message_at, names, remembered_as, state}
use Rattle.event_log.specs.inner.Legal.{IsGoodOpening, IsMemory}
use Rattle.book_core.specs.declared.letter.Outbound.{Outbound}
use Rattle.book_core.specs.inner.Parts.{IsAsTold, RowsAgree}
use Rattle.book_resume.specs.inner.Rows.{AreRowsOf, IsRowAmong, IsRowOf, lives_at}
use Rattle.book_resume.proofs.Climbing.{numbers-climb}
use Rattle.book_resume.proofs.Found.{found-at}
use Rattle.book_resume.proofs.NumbersBegun.{message-begun, remaining-begun}
use Rattle.book_resume.proofs.SlotsBegun.{slot-named, slots-of, state_in}

module _ (o : Snapshot) (good : IsGoodOpening o) where
  -- the row of an arrival that is found by its number
  told-found : (n : ℕ) (r : Remembered) → n < o.messages → remembered_as o n ≡ Some r → IsMemory o.plan r
      → (row : Row (Queued Outbound)) → n ≡ row.number → IsRowOf r row → IsAsTold (begun o) row
  told-found n r below found memory row same is = record {
    slots = is.slots ∙ (slots-of r.slots r.deliveries memory.slots memory.deliveries.once
        ∙ (ap (λ f. slots_by f (destinations_of r.deliveries)) states ∙ ap (slots_by (state (begun o) row.number)) (ap destinations_of (sym goes))));
    queues = λ d within. is.queues d within ∙ sym (queued d);
    control_id = is.control_id ∙ sym (ap (λ m. option_map_or (λ m. control_id_of m.raw) m []) message);
    deliveries = is.deliveries ∙ sym goes;
    came = message ∙ (λ i. Some (record { channel = sym is.channel i; raw = sym is.raw i; deliveries = sym is.deliveries i }));
  }
    where
      first : remembered_as o row.number ≡ Some r
      first = ap (remembered_as o) (sym same) ∙ found

      message : message_at (begun o) row.number ≡ Some (accepted_of r)
      message = message-begun o (numbers-climb o good) row.number (omega arith) ∙ ap (λ q. option_map accepted_of q) first

      goes : deliveries (begun o) row.number ≡ r.deliveries
      goes = ap (λ m. option_map_or (λ m. m.deliveries) m []) message

      states : state_in r.slots ≡ state (begun o) row.number
      states = λ i d. option_map_or (λ r. state_in r.slots d) (sym first i) (state_in [] d)

      queued : (d : ℕ) → is_queued (begun o) d row.number ≡ lives_at d r.slots
      queued d =
          ap (λ ds. option_map_or is_live (cond (names d ds) (Some (state (begun o) row.number d)) None) false) goes
          ∙ (ap (λ f. option_map_or is_live (cond (names d r.deliveries) (Some (f d)) None) false) (sym states)
          ∙ ap (λ s. option_map_or is_live s false) (slot-named d r.slots r.deliveries memory.slots))

  told-among : (row : Row (Queued Outbound)) → IsRowAmong o.remembered row → IsAsTold (begun o) row
  told-among row among =
      let r = among.arrival in
      let at = among.among in
      let found = found-at 0 o.messages row.number o.remembered at.0 r (numbers-climb o good) at.1 at.2 among.is.number in
      told-found row.number r found.1 found.2 (All-contains (IsMemory o.plan) o.remembered r good.memories at) row refl among.is

  -- rows of all arrivals that were accepted
  pub rows-begun : (rows : List (Row (Queued Outbound))) → AreRowsOf o.remembered rows → RowsAgree (begun o) rows
  rows-begun rows are = record { each_once = are.numbers ∙ sym (remaining-begun o (numbers-climb o good)); as_told = all rows are.each }
    where
      all : (rows : List (Row (Queued Outbound))) → AllByRecursion (IsRowAmong o.remembered) rows → AllByRecursion (IsAsTold (begun o)) rows
      all [] each = tt
      all (row ∷ rows) each = (told-among row each.0, all rows each.1)
