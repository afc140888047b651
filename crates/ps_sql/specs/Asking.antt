-- What the queries of a text may speak of: a data query of no asker, and a parameter query of no bucket.
use Rattle.std.specs.Prelude.{◌≡◌, ℕ, false, List, Ok}
use Rattle.ps_queries.specs.declared.queries.ParameterQuery.{ParameterQuery}
use Rattle.ps_queries.specs.declared.queries.DataQuery.{DataQuery}
use Rattle.ps_queries.specs.declared.subjects.Subject.TheVariants as subjects
use Rattle.ps_queries.specs.Subjects.{query_speaks}
use Rattle.ps_sql.specs.Readings.{parameter_query_of, data_query_of}

-- no request function stands in what is read as a data query
abbrev pub DataQueriesAskNobody : Type 0
DataQueriesAskNobody = (text : List ℕ) (query : DataQuery) → data_query_of text ≡ Ok query → query_speaks subjects.Asker query.outputs query.condition ≡ false

-- no parameter of a bucket stands in what is read as a parameter query
abbrev pub ParameterQueriesNameNoBucket : Type 0
ParameterQueriesNameNoBucket = (text : List ℕ) (query : ParameterQuery) → parameter_query_of text ≡ Ok query → query_speaks subjects.Bucket query.outputs query.condition ≡ false
