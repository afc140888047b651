-- What is written, member by member, is the text of the whole object.
use Rattle.std.proofs.Common.{◌≡◌, ℕ, suc, ◌+◌, ◌<◌, false, List, [], ◌∷◌, ◌++◌, Bor, Less, Equal, Greater, Ordering, nat_cmp, length, get_or, drop, refl, sym, ap, ◌∙◌, subst, add-one}
use Rattle.std.proofs.Math.Seq.{drop-cons}
use Rattle.std.specs.Cmp.Lexicographic.{slice_cmp}
use Rattle.std.specs.Ordering.{match_ordering}
use Rattle.std.specs.BTreeMap.{insert_entry}
use Rattle.json.specs.Token.{Token, begin_object}
use Rattle.json.specs.Print.{print}
use Rattle.serde_json.specs.Data.{string, object, member, put}
use Rattle.serde_json.proofs.Texts.{print-outline}
use Rattle.ps_data.specs.declared.columns.Column.{Column}
use Rattle.ps_data.specs.declared.values.Value.{Value}
use Rattle.ps_data.specs.Documents.{data_of, members_of, document_of, quoted_of}
use Rattle.ps_values.specs.Writing.{members_tokens, listed, paired, with_id, RiseAbove}

-- a column more
pub listed_more : (columns : List Column) (i : ℕ) (column : Column) → i < length columns → column ≡ get_or columns i column
    → listed (drop i columns) ≡ member column.name (data_of column.value) (listed (drop (i + 1) columns))
listed_more columns i column h is = rw add-one (ap listed (drop-cons columns i column h) ∙ ap (λ c. listed (c ∷ drop (suc i) columns)) (sym is))

pub rise_more : (columns : List Column) (i : ℕ) (column : Column) (last : List ℕ) → i < length columns → column ≡ get_or columns i column
    → slice_cmp nat_cmp column.name last ≡ Greater → RiseAbove column.name (drop (i + 1) columns) → RiseAbove last (drop i columns)
rise_more columns i column last h is above rest =
    let split : drop i columns ≡ column ∷ drop (i + 1) columns = rw add-one (drop-cons columns i column h ∙ ap (λ c. c ∷ drop (suc i) columns) (sym is)) in
    subst (RiseAbove last) (sym split) (above, rest)

-- a pair more
abbrev Pair : Type 0
Pair = Bor (List ℕ) × Bor Value

paired-match_ordering : (o : Ordering) (a b c : List Pair) → paired (match_ordering o a b c) ≡ match_ordering o (paired a) (paired b) (paired c)
paired-match_ordering Less a b c = refl
paired-match_ordering Equal a b c = refl
paired-match_ordering Greater a b c = refl

pub paired-insert_entry : (pairs : List Pair) (name : Bor (List ℕ)) (value : Bor Value)
    → paired (insert_entry (λ x y. slice_cmp nat_cmp x.now y.now) pairs name value) ≡ put name.now (data_of value.now) (paired pairs)
paired-insert_entry [] name value = refl
paired-insert_entry (pair ∷ pairs) name value = paired-match_ordering (slice_cmp nat_cmp name.now pair.0.now) _ _ _ ∙ rw (paired-insert_entry pairs name value)

-- the whole text
pub document_written : (id : List ℕ) (columns : List Column) (ts : List Token)
    → ts ≡ (begin_object ∷ []) ++ members_tokens (with_id false id (members_of columns)) → print ts ≡ document_of id columns
unfolding document_of
document_written id columns ts h = ap print h ∙ print-outline (object (with_id false id (members_of columns)))

pub quoted_written : (t : List ℕ) → print (Token.string t ∷ []) ≡ quoted_of t
unfolding quoted_of
quoted_written t = print-outline (string t)
