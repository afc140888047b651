-- The token of a token file.
use Rattle.std.specs.Prelude.{ℕ, ◌-◌, Bool, ◌&&◌, nat_lt, nat_le, List, [], ◌∷◌, length, take, Option, Some, None, nat_eq, if◌then◌else◌}
use Rattle.std.specs.List.{list_all, ends_with}

-- the bytes without one closing line feed
abbrev pub without_feed : List ℕ → List ℕ
without_feed bytes = if ends_with nat_eq bytes (10 ∷ []) then take (length bytes - 1) bytes else bytes

-- a byte from `!` to `~`
abbrev pub is_visible : ℕ → Bool
is_visible byte = nat_le 33 byte && nat_le byte 126

-- one or more visible bytes
abbrev pub is_token : List ℕ → Bool
is_token bytes = nat_lt 0 (length bytes) && list_all is_visible bytes

-- the token that a file's bytes are
abbrev pub token_in : List ℕ → Option (List ℕ)
token_in bytes = if is_token (without_feed bytes) then Some (without_feed bytes) else None
