mod SizeFacts
