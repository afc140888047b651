-- The texts that make, write and read a client's tables.
use Rattle.std.specs.Prelude.{ℕ, List, codes}

abbrev pub make_buckets_text : List ℕ
make_buckets_text = codes "CREATE TABLE buckets (name TEXT PRIMARY KEY NOT NULL, position INTEGER NOT NULL, added INTEGER NOT NULL) STRICT"

abbrev pub make_entries_text : List ℕ
make_entries_text = codes "CREATE TABLE entries (bucket TEXT NOT NULL, kind TEXT NOT NULL, id TEXT NOT NULL, subkey TEXT NOT NULL, op INTEGER NOT NULL, data TEXT NOT NULL, sum INTEGER NOT NULL, PRIMARY KEY (bucket, kind, id, subkey)) STRICT"

abbrev pub make_queue_text : List ℕ
make_queue_text = codes "CREATE TABLE queue (seq INTEGER PRIMARY KEY NOT NULL, change TEXT NOT NULL) STRICT"

abbrev pub make_aim_text : List ℕ
make_aim_text = codes "CREATE TABLE aim (one INTEGER PRIMARY KEY NOT NULL, kind INTEGER NOT NULL, number INTEGER NOT NULL) STRICT"

abbrev pub make_shown_text : List ℕ
make_shown_text = codes "CREATE TABLE shown (kind TEXT NOT NULL, id TEXT NOT NULL, data TEXT NOT NULL, PRIMARY KEY (kind, id)) STRICT"

abbrev pub put_bucket_text : List ℕ
put_bucket_text = codes "INSERT OR REPLACE INTO buckets (name, position, added) VALUES (?1, ?2, ?3)"

abbrev pub drop_bucket_text : List ℕ
drop_bucket_text = codes "DELETE FROM buckets WHERE name = ?1"

abbrev pub read_buckets_text : List ℕ
read_buckets_text = codes "SELECT name, position, added FROM buckets ORDER BY name"

abbrev pub put_entry_text : List ℕ
put_entry_text = codes "INSERT OR REPLACE INTO entries (bucket, kind, id, subkey, op, data, sum) VALUES (?1, ?2, ?3, ?4, ?5, ?6, ?7)"

abbrev pub drop_entry_text : List ℕ
drop_entry_text = codes "DELETE FROM entries WHERE bucket = ?1 AND kind = ?2 AND id = ?3 AND subkey = ?4"

abbrev pub read_entries_text : List ℕ
read_entries_text = codes "SELECT bucket, kind, id, subkey, op, data, sum FROM entries ORDER BY bucket, kind, id, subkey"

abbrev pub put_queued_text : List ℕ
put_queued_text = codes "INSERT OR REPLACE INTO queue (seq, change) VALUES (?1, ?2)"

abbrev pub drop_queued_text : List ℕ
drop_queued_text = codes "DELETE FROM queue WHERE seq = ?1"

abbrev pub read_queue_text : List ℕ
read_queue_text = codes "SELECT seq, change FROM queue ORDER BY seq"

abbrev pub put_aim_text : List ℕ
put_aim_text = codes "INSERT OR REPLACE INTO aim (one, kind, number) VALUES (1, ?1, ?2)"

abbrev pub read_aim_text : List ℕ
read_aim_text = codes "SELECT one, kind, number FROM aim ORDER BY one"

abbrev pub put_shown_text : List ℕ
put_shown_text = codes "INSERT OR REPLACE INTO shown (kind, id, data) VALUES (?1, ?2, ?3)"

abbrev pub drop_shown_text : List ℕ
drop_shown_text = codes "DELETE FROM shown WHERE kind = ?1 AND id = ?2"

abbrev pub read_shown_text : List ℕ
read_shown_text = codes "SELECT kind, id, data FROM shown ORDER BY kind, id"
