use Rattle.std.proofs.Common.{◌≡◌, map, drop}
use Rattle.httparse.specs.Spans.{header_bytes}
use Rattle.ps_http.specs.Fields as spec
use Rattle.ps_http.proofs.fields.first_value.Given as goal

-- the headers before this one decide nothing
abbrev pub invariant-headers : goal.invariant-headers
invariant-headers l = spec.first_value l.wanted (map (header_bytes l.buffer) l.headers) ≡ spec.first_value l.wanted (map (header_bytes l.buffer) (drop l.header-index l.headers))
