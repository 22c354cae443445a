use Rattle.file_store.proofs.line_laws.line_laws.Goals as goal

pub returns : goal.returns
returns c =
    record {
      part_ends = c.part_ends_at_divider.ensures;
      parts_tell = c.divided_parts_tell.ensures;
      joins = c.cut_texts_join.ensures;
      no_keyword = c.no_keyword_begins_part.ensures;
      no_colon = c.part_has_no_colon.ensures;
      shows = c.canonical_texts_show.ensures;
      tells = c.canonical_text_tells.ensures;
    }
