-- HMAC with SHA-256 (RFC 2104), as a function on lists of bytes.
use Rattle.std.specs.Prelude.{ℕ, ◌-◌, List, ◌++◌, length, map, replicate, nat_lt, bit_xor, if◌then◌else◌}
use Rattle.sha2.specs.Sha256.{sha256}

-- a key longer than a block, which has 64 bytes, is hashed first
abbrev pub shortened : List ℕ → List ℕ
shortened key = if nat_lt 64 (length key) then sha256 key else key

-- zeros are put behind it, up to the length of a block
abbrev pub filled : List ℕ → List ℕ
filled key = key ++ replicate (64 - length key) 0

unfoldable pub block_of : List ℕ → List ℕ
block_of key = filled (shortened key)

-- each byte combined with the byte of a pad, by exclusive or
abbrev pub masked : ℕ → List ℕ → List ℕ
masked pad block = map (λ byte. bit_xor byte pad) block

-- H(K XOR opad, H(K XOR ipad, text))
unfoldable pub hmac : List ℕ → List ℕ → List ℕ
hmac key message = sha256 (masked 0x5c (block_of key) ++ sha256 (masked 0x36 (block_of key) ++ message))
