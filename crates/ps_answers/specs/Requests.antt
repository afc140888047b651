-- The requests of a client, as bytes.
use Rattle.std.specs.Prelude.{ℕ, List, [], ◌∷◌, ◌++◌, codes, length}
use Rattle.std.specs.Fmt.{decimal}
use Rattle.form_urlencoded.specs.Form.{append_pair}

-- CR LF
abbrev pub line_end : List ℕ
line_end = 13 ∷ 10 ∷ []

-- a line of a name, which has its colon and its space, and a value
abbrev pub field_line : List ℕ → List ℕ → List ℕ
field_line name value = name ++ (value ++ line_end)

-- the line `METHOD TARGET HTTP/1.1`, the method with its space, and the fields that each request has
unfoldable pub first_lines : List ℕ → List ℕ → List ℕ → List ℕ → List ℕ
first_lines method target address token =
    method ++ field_line target (codes " HTTP/1.1")
    ++ field_line (codes "Host: ") address
    ++ field_line (codes "Authorization: Token ") token
    ++ field_line (codes "Connection: ") (codes "close")

-- the line that says that the body is JSON
unfoldable pub type_line : List ℕ
type_line = field_line (codes "Content-Type: ") (codes "application/json")

-- the line that says how long it is
unfoldable pub length_line : ℕ → List ℕ
length_line count = field_line (codes "Content-Length: ") (decimal count)

-- these lines, the empty line and the body
unfoldable pub body_lines : List ℕ → List ℕ
body_lines body = type_line ++ length_line (length body) ++ line_end ++ body

-- a request with a body
unfoldable pub post_text : List ℕ → List ℕ → List ℕ → List ℕ → List ℕ
post_text target address token body = first_lines (codes "POST ") target address token ++ body_lines body

-- the request that uploads this body
abbrev pub upload_text : List ℕ → List ℕ → List ℕ → List ℕ
upload_text address token body = post_text (codes "/upload") address token body

-- the request that begins a stream with this body
abbrev pub stream_text : List ℕ → List ℕ → List ℕ → List ℕ
stream_text address token body = post_text (codes "/sync/stream") address token body

-- the path of write checkpoints with the client's id, as a web form writes it
unfoldable pub target_of : List ℕ → List ℕ
target_of client = codes "/write-checkpoint2.json?" ++ append_pair [] (codes "client_id") client

-- the request for a write checkpoint of this client
unfoldable pub number_text : List ℕ → List ℕ → List ℕ → List ℕ
number_text address token client = first_lines (codes "GET ") (target_of client) address token ++ line_end
