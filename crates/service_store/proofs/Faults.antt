-- Why a store isn't started.
use Rattle.std.proofs.Common.{◌≡◌, ℕ, List, sym, subst}
use Rattle.service_store.specs.declared.fault.BookFault.{BookFault}
use Rattle.service_store.specs.declared.fault.BookFault.TheVariants as book
use Rattle.service_store.specs.inner.Faults.{IsBookFailure, IsWriteFailure}

pub write_failure : (bodies : List (List ℕ)) (e : BookFault) → IsWriteFailure e → IsBookFailure bodies e
write_failure bodies book.NoMemory is = tt
write_failure bodies (book.Header fault) is = absurd is
write_failure bodies book.NoOpening is = absurd is
write_failure bodies book.NoPlan is = absurd is
write_failure bodies (book.Stopped index problem version) is = absurd is
write_failure bodies (book.OtherBound bound other) is = absurd is
write_failure bodies (book.MoreOwed asked enough) is = absurd is
write_failure bodies (book.Write error) is = tt

pub no_memory : (bodies : List (List ℕ)) (e : BookFault) → e ≡ book.NoMemory → IsBookFailure bodies e
no_memory bodies e is = write_failure bodies e (subst IsWriteFailure (sym is) tt)
