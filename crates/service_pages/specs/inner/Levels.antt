-- How urgently the parts of a service need attention.
use Rattle.std.specs.Prelude.{Bool, true, false}
use Rattle.service_pages.specs.declared.levels.Level.{Level}
use Rattle.service_pages.specs.declared.levels.Level.TheVariants.{Fine, Look, Act}

-- all is well
abbrev pub is_calm : Level → Bool
is_calm Fine = true
is_calm Look = false
is_calm Act = false
