-- What a client is told of a message.
use Rattle.std.specs.Prelude.{ℕ, Bool, List, [], length, take, codes, Option, Some, None, if◌then◌else◌}
use Rattle.std.specs.List.{slice_index_or}
use Rattle.pc_message.specs.Header.{header_of, has_name, texts_of}
use Rattle.pc_message.specs.Message.{size_of}
use Rattle.pc_message.specs.declared.descriptor.Descriptor.{Descriptor}

-- the text of the first field of this name, cut at 128 bytes; empty where there is none
abbrev pub first_text : List ℕ → List (List ℕ) → List ℕ
first_text name message = take 128 (slice_index_or (texts_of (has_name name) (header_of message)) 0 [])

-- the descriptor of a message with this uid and these flags
unfoldable pub descriptor_of : List (List ℕ) → ℕ → ℕ → Descriptor
descriptor_of message uid flags = record {
  uid = uid;
  flags = flags;
  bytes = size_of message;
  lines = length message;
  date = first_text (codes "date:") message;
  from = first_text (codes "from:") message;
  to = first_text (codes "to:") message;
  subject = first_text (codes "subject:") message;
}

-- the text that was kept before, or this one where its field has the name
abbrev pub first_kept : Option (List ℕ) → Bool → List ℕ → Option (List ℕ)
first_kept (Some first) named text = Some first
first_kept None named text = if named then Some text else None
