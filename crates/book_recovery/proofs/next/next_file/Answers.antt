use Rattle.std.proofs.Common.{◌≡◌, arith, ℕ, List, sym, ap, subst, ◌∙◌}
use Rattle.event_log.specs.History.{Snapshot}
use Rattle.opening_records.specs.inner.Openings.{IsEncoding, with_bound}
use Rattle.opening_maps.specs.inner.GivenBack.{given_back}
use Rattle.book_recovery.specs.inner.Preface.{Preface, PrefaceFits}
use Rattle.book_recovery.proofs.Files.{next_connection, next_recovered, preface_fits}
use Rattle.book_recovery.proofs.next.next_file.Goals as goal

pub returns-clause-recovered : goal.returns-clause-recovered
returns-clause-recovered g c =
    let bound = c.args.events_max in
    let bytes : List ℕ = c.as_slice.result.now in
    let preface : Preface = record { events_max = bound; version = c.args.version.now; connections = c.in-Some.connections; opening = bytes } in
    let fits : PrefaceFits preface =
    preface_fits preface c.requires.some c.requires.few c.requires.version c.utf8.version c.in_ok-write_preface.ensures.short c.in-Some.ensures.small in
    let encoded : IsEncoding (with_bound bound c.in_ok-waiting.waiting) bytes =
    subst (IsEncoding (with_bound bound c.in_ok-waiting.waiting)) (sym c.as_slice.ensures.value) c.in_ok-opening.ensures.encoded in
    let waits : c.in_ok-waiting.waiting ≡ given_back c.args.book.now.opening = c.in_ok-waiting.ensures ∙ ap given_back c.opening.ensures in
    let of_book : IsEncoding (with_bound bound (given_back c.args.book.now.opening)) bytes =
    subst (λ (o : Snapshot). IsEncoding (with_bound bound o) bytes) waits encoded in
    next_recovered c.in_ok-write_preface.field-0.items preface (with_bound bound (given_back c.args.book.now.opening)) c.args.book.now.entries
    c.in_ok-write_preface.ensures.bytes fits of_book c.in_ok-try_opening.ensures.good c.requires.folded

pub returns-clause-connection : goal.returns-clause-connection
returns-clause-connection g c =
    let preface : Preface =
    record { events_max = c.args.events_max; version = c.args.version.now; connections = c.in-Some.connections; opening = c.as_slice.result.now } in
    let fits : PrefaceFits preface =
    preface_fits preface c.requires.some c.requires.few c.requires.version c.utf8.version c.in_ok-write_preface.ensures.short c.in-Some.ensures.small in
    next_connection c.in_ok-write_preface.field-0.items preface c.args.last_connection c.in_ok-write_preface.ensures.bytes fits c.in-Some.ensures.first
