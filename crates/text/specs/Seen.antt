-- What the parts of a field are as values. Assumes nothing.
use Rattle.text.specs.Structure.{Segment as OneSegment, Spoken as OneString, segments}
use Rattle.text.specs.declared.segment.Segment.{Segment}
use Rattle.text.specs.declared.spoken.Spoken.{Spoken}

abbrev pub seen_segment : Segment → OneSegment
seen_segment g = record { compression = g.compression; mode = g.mode; bytes = g.letters.now }

abbrev pub seen_string : Spoken → OneString
seen_string t = record { language = t.language.now; segments = segments t.segments.left t.segments.rest.now }
