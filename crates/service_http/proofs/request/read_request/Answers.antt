use Rattle.std.proofs.Common.{rules, ◌≡◌, List, ℕ, codes, false, inl, inr, map, string_bytes, take}
use Rattle.std.specs.List.{list_any}
use Rattle.httparse.specs.Spans.{IsRequestOf, header_bytes, span_bytes}
use Rattle.service_http.specs.inner.Requests.{AsksFor, is_foreign, states_body}
use Rattle.service_http.proofs.Fields.{asks_for, complete_of}
use Rattle.service_http.proofs.request.read_request.Goals as goal

pub returns-then-eq-clause-asked : goal.returns-then-eq-clause-asked
returns-then-eq-clause-asked c =
    let bytes = c.args.bytes.now in
    let head = c.in-Ok-Complete.head in
    let complete : IsRequestOf bytes c.parse_request.new.headers head =
    complete_of (IsRequestOf bytes c.parse_request.new.headers) _ head c.in-Ok-Complete.field-0-is c.in-Ok-Complete.ensures.complete in
    let method : span_bytes bytes head.method ≡ codes "GET" = search rules in
    let body : list_any (λ s. states_body (header_bytes bytes s)) (take head.headers c.parse_request.new.headers) ≡ false = search rules in
    let host : list_any (λ s. is_foreign (map string_bytes c.args.names.now) (header_bytes bytes s)) (take head.headers c.parse_request.new.headers) ≡ false = search rules in
    rw c.of-target.ensures (asks_for bytes (map string_bytes c.args.names.now) c.parse_request.new.headers head complete (inl method) body host)

pub returns-then-eq-2-clause-asked : goal.returns-then-eq-2-clause-asked
returns-then-eq-2-clause-asked c =
    let bytes = c.args.bytes.now in
    let head = c.in-Ok-Complete.head in
    let complete : IsRequestOf bytes c.parse_request.new.headers head =
    complete_of (IsRequestOf bytes c.parse_request.new.headers) _ head c.in-Ok-Complete.field-0-is c.in-Ok-Complete.ensures.complete in
    let method : span_bytes bytes head.method ≡ codes "HEAD" = search rules in
    let body : list_any (λ s. states_body (header_bytes bytes s)) (take head.headers c.parse_request.new.headers) ≡ false = search rules in
    let host : list_any (λ s. is_foreign (map string_bytes c.args.names.now) (header_bytes bytes s)) (take head.headers c.parse_request.new.headers) ≡ false = search rules in
    rw c.of-target.ensures (asks_for bytes (map string_bytes c.args.names.now) c.parse_request.new.headers head complete (inr method) body host)
