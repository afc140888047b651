-- The laws between what is read and what is spelled, at an answer.
use Rattle.std.proofs.Common.{ℕ, List, Result, Ok, Err, IfOk, subst}
use Rattle.base64.specs.GeneralPurpose.{IsBytes}
use Rattle.ps_token.specs.Types.{Key, KeysFault, Claims, TokenFault}
use Rattle.ps_token.specs.Members.{ReadsKeys, Verifies}
use Rattle.ps_token.specs.KeyFiles.{keys_of_file, IsKeyFile}
use Rattle.ps_token.specs.KeyLists.{HaveDistinctKids}
use Rattle.ps_token.specs.Tokens.{accepts}
use Rattle.ps_token.specs.Accepted.{IsAccepted}
use Rattle.ps_token.proofs.KeyFiles.{file_found, file_only}
use Rattle.ps_token.proofs.Tokens.{token_found, token_only}

pub found_keys : (result : Result (List Key) KeysFault) (bytes : List ℕ) → ReadsKeys result (keys_of_file bytes) → IfOk result (λ keys. IsKeyFile bytes keys)
found_keys (Ok keys) bytes h = file_found bytes keys h
found_keys (Err fault) bytes h = tt

pub only_keys : (result : Result (List Key) KeysFault) (bytes : List ℕ) (keys : List Key) → ReadsKeys result (keys_of_file bytes) → IsKeyFile bytes keys → ReadsKeys result (Ok keys)
only_keys result bytes keys h spelled = subst (ReadsKeys result) (file_only bytes keys spelled) h

pub found_claims : (result : Result Claims TokenFault) (keys : List Key) (token : List ℕ) (now : ℕ) → Verifies result (accepts keys token now) → IfOk result (λ claims. IsAccepted keys token now claims)
found_claims (Ok claims) keys token now h = token_found keys token now claims h
found_claims (Err fault) keys token now h = tt

pub only_claims : (result : Result Claims TokenFault) (keys : List Key) (token : List ℕ) (now : ℕ) (claims : Claims) → HaveDistinctKids keys → IsBytes token → Verifies result (accepts keys token now)
    → IsAccepted keys token now claims → Verifies result (Ok claims)
only_claims result keys token now claims distinct small h is = subst (Verifies result) (token_only keys token now claims distinct small is) h
