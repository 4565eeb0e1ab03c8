use Rattle.service_http.proofs.Escaping.{string_ends, text_is_inert}
use Rattle.service_http.proofs.document.escape_rules.Goals as goal

pub returns-clause-html : goal.returns-clause-html
returns-clause-html c = text_is_inert

pub returns-clause-json : goal.returns-clause-json
returns-clause-json c = string_ends
