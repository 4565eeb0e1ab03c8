use Rattle.std.proofs.Common.{rules}
use Rattle.sqlite_store.specs.FileStore.{view}
use Rattle.service_store.specs.inner.Starting.{AreReadOf}
use Rattle.service_store.proofs.open.open_book.Goals as goal

pub returns-in-Ok-clause-recovered : goal.returns-in-Ok-clause-recovered
returns-in-Ok-clause-recovered g c clean =
    let read : AreReadOf (view c.in_ok-opened.opened.0.store) c.in_ok-opened.opened.1.items = search rules in
    c.in-Ok.ensures.recovered read clean
