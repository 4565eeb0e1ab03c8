use Rattle.std.proofs.Common.{◌≡◌, ◌∷◌, [], rules, arith, List, ℕ, sym, subst, refl, ap, ◌∙◌}
use Rattle.book_recovery.specs.inner.File.{IsBeginning, IsFailure, connection_before}
use Rattle.book_recovery.proofs.Files.{first_failure, rows_connection, rows_recovered, rows_stopped}
use Rattle.book_recovery.proofs.run.recover.Goals as goal

pub returns-in-Err-clause-failure : goal.returns-in-Err-clause-failure
returns-in-Err-clause-failure g c =
    first_failure c.args.rows.now c.first-item.result c.in-Err.error (omega (arith, c.in-len1-up.len_at_least)) c.first-item.is
    (subst (λ (body : List ℕ). IsFailure (body ∷ []) c.in-Err.error) c.as_slice.ensures.value c.in-Err.ensures.failure)

pub returns-in-Ok-redo_all-clause-recovered : goal.returns-in-Ok-redo_all-clause-recovered
returns-in-Ok-redo_all-clause-recovered g c =
    rw c.with_seen.ensures.book
    (rows_recovered c.args.rows.now c.first-item.result c.in-Ok.begun.version.now c.in-Ok.begun.book c.redo_all.new.book c.in-Ok-redo_all.seen
    (omega (arith, c.in-len1-up.len_at_least)) c.first-item.is
    (subst (λ (body : List ℕ). IsBeginning body c.in-Ok.begun.version.now c.in-Ok.begun.book) c.as_slice.ensures.value c.in-Ok.ensures.begins)
    c.in-Ok-redo_all.ensures.redone)

pub returns-in-Ok-redo_all-clause-connection :
    goal.returns-in-Ok-redo_all-clause-connection
returns-in-Ok-redo_all-clause-connection g c =
    c.with_seen.ensures.connection
    ∙ rows_connection c.args.rows.now c.first-item.result c.in-Ok.begun.book c.redo_all.new.book c.in-Ok-redo_all.seen c.in-Ok.begun.last_connection
    (omega (arith, c.in-len1-up.len_at_least)) c.first-item.is (c.in-Ok.ensures.connection ∙ ap connection_before c.as_slice.ensures.value) c.in-Ok-redo_all.ensures.redone

pub returns-in-Err-redo_all-clause-failure : goal.returns-in-Err-redo_all-clause-failure
returns-in-Err-redo_all-clause-failure g c =
    rows_stopped c.args.rows.now c.first-item.result c.in-Ok.begun.book _ c.in-Err-redo_all.index
    (omega (arith, c.in-len1-up.len_at_least)) c.first-item.is
    (subst (λ (body : List ℕ). IsBeginning body c.in-Ok.begun.version.now c.in-Ok.begun.book) c.as_slice.ensures.value c.in-Ok.ensures.begins) refl
    c.in-Err-redo_all.ensures.stops
