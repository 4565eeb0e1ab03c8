-- How histories are distinguished.
use Rattle.std.specs.Prelude.{ℕ, List, refl}
use Rattle.std.specs.Coded.{Coded, code_by, coded×, coded_ℕ, coded_list}
use Rattle.plan_text.specs.inner.Coding.{plan_code}
use Rattle.plan_text.specs.Entries.{PlanEntry}
use Rattle.judge_core.specs.contracts.delivery.Delivery as delivery
use Rattle.judge_core.specs.declared.delivery.Delivery.{Delivery}
use Rattle.dest_queue.specs.contracts.slots.Slot as slot
use Rattle.dest_queue.specs.declared.slots.Slot.{Slot}
use Rattle.stat_count.specs.contracts.ChannelCounts as channel
use Rattle.stat_count.specs.contracts.DestinationCounts as destination
use Rattle.stat_count.specs.declared.ChannelCounts.{ChannelCounts}
use Rattle.stat_count.specs.declared.DestinationCounts.{DestinationCounts}
use Rattle.stat_count.specs.Statistics.{Statistics}
use Rattle.event_log.specs.contracts.entry.Entry as entry
use Rattle.event_log.specs.contracts.entry.Told as told
use Rattle.event_log.specs.declared.entry.Entry.{Entry}
use Rattle.event_log.specs.declared.entry.Told.{Told}
use Rattle.event_log.specs.History.{History, Snapshot, Remembered}
use Rattle.event_log.specs.inner.Kept.{Kept}

-- statistics are stored as the counters of the channels and those of the destinations
abbrev pub statistics_code : Coded Statistics
statistics_code =
    code_by (List ChannelCounts × List DestinationCounts) (coded× (coded_list channel.the_row.coded) (coded_list destination.the_row.coded))
    (λ t. (t.channels, t.destinations)) (λ p. record { channels = p.0; destinations = p.1 }) (λ _. refl)

-- a remembered arrival as its fields in their order
abbrev pub remembered_code : Coded Remembered
remembered_code =
    code_by (ℕ × (ℕ × (List ℕ × (Told × (List Delivery × List Slot)))))
    (coded× coded_ℕ (coded× coded_ℕ (coded× (coded_list coded_ℕ)
    (coded× told.the_row.coded (coded× (coded_list delivery.the_row.coded) (coded_list slot.the_row.coded))))))
    (λ r. (r.place, (r.channel, (r.raw, (r.told, (r.deliveries, r.slots))))))
    (λ p. record { place = p.0; channel = p.1.0; raw = p.1.1.0; told = p.1.1.1.0; deliveries = p.1.1.1.1.0; slots = p.1.1.1.1.1 }) (λ _. refl)

-- an opening as its fields in their order
abbrev pub opening_code : Coded Snapshot
opening_code =
    code_by (PlanEntry × (ℕ × (ℕ × (ℕ × (ℕ × (ℕ × (Statistics × List Remembered)))))))
    (coded× plan_code (coded× coded_ℕ (coded× coded_ℕ (coded× coded_ℕ (coded× coded_ℕ (coded× coded_ℕ
    (coded× statistics_code (coded_list remembered_code))))))))
    (λ o. (o.plan, (o.events_max, (o.places, (o.messages, (o.deployments, (o.prunings, (o.forgotten, o.remembered))))))))
    (λ p. record {
      plan = p.0;
      events_max = p.1.0;
      places = p.1.1.0;
      messages = p.1.1.1.0;
      deployments = p.1.1.1.1.0;
      prunings = p.1.1.1.1.1.0;
      forgotten = p.1.1.1.1.1.1.0;
      remembered = p.1.1.1.1.1.1.1;
    }) (λ _. refl)

-- a history as its opening and its entries
abbrev pub history_code : Coded History
history_code =
    code_by (Snapshot × List Entry) (coded× opening_code (coded_list entry.the_row.coded))
    (λ h. (h.opening, h.entries)) (λ p. record { opening = p.0; entries = p.1 }) (λ _. refl)

-- one with room as the history and the room
abbrev pub kept_code : Coded Kept
kept_code =
    code_by (History × ℕ) (coded× history_code coded_ℕ)
    (λ k. (k.history, k.room)) (λ p. record { history = p.0; room = p.1 }) (λ _. refl)
