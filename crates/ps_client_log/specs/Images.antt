-- What the parts of the program stand for.
use Rattle.std.specs.Prelude.{ℕ, Bool, ◌&&◌, if◌then◌else◌, List, Option, Some, None, option_map, option_and_then, bytes_eq}
use Rattle.std.specs.Option.{option_map_or}
use Rattle.indexmap.specs.IndexMap.{get, spare}
use Rattle.ps_bucket_log.specs.declared.ops.Key.{Key}
use Rattle.ps_bucket_log.specs.declared.ops.Op.{Op}
use Rattle.ps_bucket_log.specs.declared.ops.Op.TheVariants.{Put}
use Rattle.ps_bucket_log.specs.Buckets.{Bucket}
use Rattle.ps_client_log.specs.declared.images.Image.{Image}
use Rattle.ps_client_log.specs.declared.images.Entry.{Entry}
use Rattle.ps_client_log.specs.declared.slots.Slot.{Slot}
use Rattle.ps_client_log.specs.declared.buckets.Buckets.{Buckets}

-- whether two keys are the same, part by part
abbrev pub key_eq : Key → Key → Bool
key_eq a b = bytes_eq a.kind b.kind && (bytes_eq a.id b.id && bytes_eq a.subkey b.subkey)

-- the PUT of a key that an entry came from
abbrev pub put_at : Key → Entry → Op
put_at key entry = Put entry.id key entry.content entry.sum

-- what an image is of
abbrev pub image_of : Image → Bucket
image_of image = record {
  position = image.position.0;
  total = image.total.0;
  held = λ key. option_map (put_at key) (get key_eq image.held key);
}

-- the bucket that a slot is of, if any
abbrev pub slot_bucket : Slot → Option Bucket
slot_bucket slot = if slot.there then Some (image_of slot.image) else None

-- the bucket of a name
abbrev pub bucket_found : Buckets → List ℕ → Option Bucket
bucket_found buckets name = option_and_then slot_bucket (get bytes_eq buckets.slots name)

-- for how many more entries there is room in a slot, and in that of a name
abbrev pub slot_room : Slot → ℕ
slot_room slot = spare slot.image.held

abbrev pub room_for : Buckets → List ℕ → ℕ
room_for buckets name = option_map_or slot_room (get bytes_eq buckets.slots name) 0
