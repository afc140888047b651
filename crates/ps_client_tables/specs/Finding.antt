-- What a database has before a client's tables are made.
use Rattle.std.specs.Prelude.{◌≡◌}
use Rattle.sqlite.specs.Schema.{Schema}
use Rattle.ps_client_tables.specs.declared.schemas.Found.{Found}
use Rattle.ps_client_tables.specs.declared.schemas.Found.TheVariants.{Nothing, Client, Other}
use Rattle.ps_client_tables.specs.Schemas.{no_schema, client_schema}

abbrev pub IsFound : Schema → Found → Type 0
IsFound schema Nothing = schema ≡ no_schema
IsFound schema Client = schema ≡ client_schema
IsFound schema Other = Unit {0}
