-- Checksums, how they add up, and the texts whose checksums the operations of a bucket carry.
use Rattle.std.specs.Prelude.{ℕ, ◌+◌, ◌-◌, ◌%◌, ◌^◌, List, ◌++◌, codes}
use Rattle.std.specs.Int.{w32, from_le_bytes}
use Rattle.sha2.specs.Sha256.{sha256}
use Rattle.ps_checksum.specs.declared.sums.Sum.{Sum}

-- addition modulo 2 ^ 32
abbrev pub add_sums : Sum → Sum → Sum
add_sums a b = record { 0 = (a.0 + b.0) % 2 ^ 32 }

abbrev pub zero_sum : Sum
zero_sum = record { 0 = 0 }

-- what adds up with a sum to zero
abbrev pub negated_sum : Sum → Sum
negated_sum a = record { 0 = (2 ^ 32 - a.0) % 2 ^ 32 }

-- the first four bytes of SHA-256 (FIPS 180-4), as a little-endian number
unfoldable pub checksum_of : List ℕ → Sum
checksum_of bytes = record { 0 = from_le_bytes w32 (sha256 bytes) }

-- the text of a PUT
abbrev pub put_text : List ℕ → List ℕ → List ℕ → List ℕ
put_text kind id content = codes "put." ++ kind ++ codes "." ++ id ++ codes "." ++ content

-- the text of a REMOVE
abbrev pub remove_text : List ℕ → List ℕ
remove_text subkey = codes "delete." ++ subkey
