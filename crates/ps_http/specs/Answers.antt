-- The heads of answers.
use Rattle.std.specs.Prelude.{ℕ, ◌==◌, Bool, List, [], ◌∷◌, ◌++◌, Option, Some, None, is_some, option_map, codes, if◌then◌else◌}
use Rattle.std.specs.Fmt.{decimal}

-- CR LF
abbrev pub line_end : List ℕ
line_end = 13 ∷ 10 ∷ []

-- the first line of an answer with that status
abbrev pub status_line : ℕ → Option (List ℕ)
status_line status =
    if status == 200 then Some (codes "HTTP/1.1 200 OK")
    else (if status == 400 then Some (codes "HTTP/1.1 400 Bad Request")
    else (if status == 401 then Some (codes "HTTP/1.1 401 Unauthorized")
    else (if status == 404 then Some (codes "HTTP/1.1 404 Not Found")
    else (if status == 405 then Some (codes "HTTP/1.1 405 Method Not Allowed")
    else (if status == 409 then Some (codes "HTTP/1.1 409 Conflict")
    else (if status == 411 then Some (codes "HTTP/1.1 411 Length Required")
    else (if status == 413 then Some (codes "HTTP/1.1 413 Content Too Large")
    else (if status == 422 then Some (codes "HTTP/1.1 422 Unprocessable Content")
    else (if status == 503 then Some (codes "HTTP/1.1 503 Service Unavailable")
    else None)))))))))

-- the status is one of the table
abbrev pub is_status : ℕ → Bool
is_status status = is_some (status_line status)

-- the line that says how long the body is
unfoldable pub length_line : ℕ → List ℕ
length_line count = codes "Content-Length: " ++ (decimal count ++ line_end)

-- the line that says that the body is lines of JSON
unfoldable pub stream_line : List ℕ
stream_line = codes "Content-Type: application/x-ndjson" ++ line_end

-- the line that says that the body is JSON
unfoldable pub json_line : List ℕ
json_line = codes "Content-Type: application/json" ++ line_end

-- the lines that say what the body is: a stream, or so many bytes, which are JSON where the status is 200
abbrev pub body_fields : ℕ → Option ℕ → List ℕ
body_fields status None = stream_line
body_fields status (Some count) = if status == 200 then json_line ++ length_line count else length_line count

-- the line that says that no other request is read on the connection, and the empty line
unfoldable pub last_lines : List ℕ
last_lines = codes "Connection: close" ++ line_end ++ line_end

-- the first line with its end, the lines that say what the body is, and the last lines
unfoldable pub head_text : List ℕ → List ℕ → List ℕ
head_text first fields = first ++ line_end ++ fields ++ last_lines

-- the head of an answer with that status
abbrev pub answer_head : ℕ → Option ℕ → Option (List ℕ)
answer_head status length = option_map (λ first. head_text first (body_fields status length)) (status_line status)
