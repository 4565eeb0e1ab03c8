-- How runs are distinguished.
use Rattle.std.specs.Prelude.{ℕ, Bool, List, Result, refl}
use Rattle.std.specs.Coded.{Coded, code_by, coded×, coded_ℕ, coded_bool, coded_list, coded_result}
use Rattle.event_log.specs.inner.Coding.{history_code}
use Rattle.event_log.specs.History.{History}
use Rattle.event_log.specs.declared.entry.Told.{Told}
use Rattle.event_log.specs.contracts.entry.Told as told
use Rattle.conn_core.specs.declared.booking.Unbooked.{Unbooked}
use Rattle.conn_core.specs.contracts.booking.Unbooked as unbooked
use Rattle.conn_core.specs.Replies.{Answer}
use Rattle.engine_model.specs.Run.{Connection, Run}

abbrev pub answer_code : Coded Answer
answer_code =
    code_by (List ℕ × (Result Told Unbooked × ℕ))
    (coded× (coded_list coded_ℕ) (coded× (coded_result told.the_row.coded unbooked.the_row.coded) coded_ℕ))
    (λ a. (a.raw, (a.outcome, a.moment))) (λ p. record { raw = p.0; outcome = p.1.0; moment = p.1.1 }) (λ _. refl)

abbrev pub connection_code : Coded Connection
connection_code =
    code_by (ℕ × (List ℕ × (List Answer × (List ℕ × Bool))))
    (coded× coded_ℕ (coded× (coded_list coded_ℕ) (coded× (coded_list answer_code) (coded× (coded_list coded_ℕ) coded_bool))))
    (λ c. (c.channel, (c.stream, (c.answers, (c.output, c.ended)))))
    (λ p. record { channel = p.0; stream = p.1.0; answers = p.1.1.0; output = p.1.1.1.0; ended = p.1.1.1.1 }) (λ _. refl)

abbrev pub run_code : Coded Run
run_code =
    code_by (History × (List Connection × List ℕ)) (coded× history_code (coded× (coded_list connection_code) (coded_list coded_ℕ)))
    (λ r. (r.history, (r.connections, r.folded))) (λ p. record { history = p.0; connections = p.1.0; folded = p.1.1 }) (λ _. refl)
