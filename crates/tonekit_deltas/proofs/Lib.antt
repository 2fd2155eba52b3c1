mod Range
