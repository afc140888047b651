use Rattle.std.proofs.Common.{◌≡◌, map, drop}
use Rattle.httparse.specs.Spans.{header_bytes}
use Rattle.ps_http.specs.Fields as spec
use Rattle.ps_http.proofs.fields.has_field.Given as goal

-- the headers before this one decide nothing
abbrev pub invariant-headers : goal.invariant-headers
invariant-headers l = spec.has_field l.wanted (map (header_bytes l.buffer) l.headers) ≡ spec.has_field l.wanted (map (header_bytes l.buffer) (drop l.header-index l.headers))
