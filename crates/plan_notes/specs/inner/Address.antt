-- Addresses that are the same, as far as their texts say.
use Rattle.std.specs.Prelude.{Bool, true, false, not, ◌&&◌, ◌==◌}
use Rattle.std.specs.Str.{bytes_eq}
use Rattle.plan_notes.specs.declared.address.Host.{Host}
use Rattle.plan_notes.specs.declared.address.Host.TheVariants.{Any, Local, Other}
use Rattle.plan_notes.specs.declared.address.Address.{Address}

-- one port can't be listened at on both hosts
abbrev pub hosts_meet : Host → Host → Bool
hosts_meet Any other = true
hosts_meet Local Any = true
hosts_meet Local Local = true
hosts_meet Local (Other text) = false
hosts_meet (Other text) Any = true
hosts_meet (Other text) Local = false
hosts_meet (Other text) (Other text2) = bytes_eq text.now text2.now

-- a connection to the first host reaches one that listens at the second
abbrev pub leads_to_host : Host → Host → Bool
leads_to_host Any Any = true
leads_to_host Any Local = true
leads_to_host Any (Other text) = false
leads_to_host Local Any = true
leads_to_host Local Local = true
leads_to_host Local (Other text) = false
leads_to_host (Other text) Any = false
leads_to_host (Other text) Local = false
leads_to_host (Other text) (Other text2) = bytes_eq text.now text2.now

-- port 0 lets the system choose another port each time
abbrev pub meet : Address → Address → Bool
meet one other = not (one.port == 0) && (one.port == other.port && hosts_meet one.host other.host)

abbrev pub leads_to : Address → Address → Bool
leads_to one listener = not (one.port == 0) && (one.port == listener.port && leads_to_host one.host listener.host)
